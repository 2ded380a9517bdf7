use Rattle.std.proofs.Common.{rules, arith}
use Rattle.ufmt_scan.proofs.Chunks.{other_chunk, short_text}
use Rattle.ufmt_scan.proofs.strip.strip_four.Goals as goal

pub returns-in_err-front : goal.returns-in_err-front
returns-in_err-front c = rw c.from_residual.ensures (short_text 4 c.args.word c.args.input.now (search rules) (omega (arith, c.in_err-front.ensures.cases)))

pub returns-else-same_four : goal.returns-else-same_four
returns-else-same_four c =
    other_chunk 4 c.args.word c.args.input.now (search rules) c.in_ok-front.front.now c.in_ok-front.ensures.cases.0 (rw c.if-same_four.false at c.same_four.ensures)
