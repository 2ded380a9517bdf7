use Rattle.std.proofs.Common.{arith}
use Rattle.ufmt_parse_leaves.proofs.PlainLanes.{found_in, whole_plain}
use Rattle.ufmt_parse_leaves.proofs.plain_bytes.plain_len.Goals as goal

pub returns-then-found-ne0-clause-within : goal.returns-then-found-ne0-clause-within
returns-then-found-ne0-clause-within c = (found_in c.args.input.now c.vectors.end c.marks-found.result (omega arith) c.vectors.invariant.1 c.marks-found.ensures c.if-found-ne0.true).0

pub returns-then-found-ne0-clause-plain : goal.returns-then-found-ne0-clause-plain
returns-then-found-ne0-clause-plain c = (found_in c.args.input.now c.vectors.end c.marks-found.result (omega arith) c.vectors.invariant.1 c.marks-found.ensures c.if-found-ne0.true).1

pub vectors-preserved : goal.vectors-preserved
vectors-preserved c = whole_plain c.args.input.now c.vectors.end c.marks-found.result (omega arith) c.vectors.invariant.1 c.marks-found.ensures c.if-found-ne0.false
