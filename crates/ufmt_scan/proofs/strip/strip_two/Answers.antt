use Rattle.std.proofs.Common.{rules, arith}
use Rattle.ufmt_scan.proofs.Chunks.{other_chunk, short_text}
use Rattle.ufmt_scan.proofs.strip.strip_two.Goals as goal

pub returns-in_err-front : goal.returns-in_err-front
returns-in_err-front c = rw c.from_residual.ensures (short_text 2 c.args.word c.args.input.now (search rules) (omega (arith, c.in_err-front.ensures.cases)))

pub returns-else-same_two : goal.returns-else-same_two
returns-else-same_two c =
    other_chunk 2 c.args.word c.args.input.now (search rules) c.in_ok-front.front.now c.in_ok-front.ensures.cases.0 (rw c.if-same_two.false at c.same_two.ensures)
