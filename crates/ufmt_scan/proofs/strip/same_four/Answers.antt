use Rattle.std.proofs.Common.{rules}
use Rattle.std.specs.Int.{w32}
use Rattle.std.proofs.lemmas.Nat.{le_bytes_4}
use Rattle.ufmt_scan.proofs.Chunks.{same_word}
use Rattle.ufmt_scan.proofs.strip.same_four.Goals as goal

pub returns : goal.returns
returns c =
    same_word w32 c.args.bytes c.args.others c.from_le_bytes.result c.from_le_bytes-2.result
    (le_bytes_4 c.args.bytes _ (search rules) (search rules) c.from_le_bytes.ensures) (le_bytes_4 c.args.others _ (search rules) (search rules) c.from_le_bytes-2.ensures)
    c.from_le_bytes.ensures c.from_le_bytes-2.ensures
