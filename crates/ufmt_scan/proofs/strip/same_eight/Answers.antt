use Rattle.std.proofs.Common.{rules}
use Rattle.std.specs.Int.{w64}
use Rattle.std.proofs.lemmas.Nat.{le_bytes_8}
use Rattle.ufmt_scan.proofs.Chunks.{same_word}
use Rattle.ufmt_scan.proofs.strip.same_eight.Goals as goal

pub returns : goal.returns
returns c =
    same_word w64 c.args.bytes c.args.others c.from_le_bytes.result c.from_le_bytes-2.result
    (le_bytes_8 c.args.bytes _ (search rules) (search rules) c.from_le_bytes.ensures) (le_bytes_8 c.args.others _ (search rules) (search rules) c.from_le_bytes-2.ensures)
    c.from_le_bytes.ensures c.from_le_bytes-2.ensures
