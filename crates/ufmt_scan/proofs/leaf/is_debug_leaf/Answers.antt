use Rattle.std.proofs.Common.{sym, ◌∙◌}
use Rattle.ufmt_scan.proofs.Leaves.{broken_front_tested, debug_leaf_tested, empty_front_tested}
use Rattle.ufmt_scan.proofs.leaf.is_debug_leaf.Goals as goal

pub returns-then-not-is_empty : goal.returns-then-not-is_empty
returns-then-not-is_empty c = debug_leaf_tested c.args.text.now c.in-Some.front
    (rw c.as_bytes.ensures.value at c.in-Some.ensures) (sym c.is_empty.ensures ∙ c.if-not-is_empty.true) _ c.is_empty-then-not-is_empty.ensures

pub returns-else-not-is_empty : goal.returns-else-not-is_empty
returns-else-not-is_empty c = rw c.if-not-is_empty.false (empty_front_tested c.args.text.now c.in-Some.front
    (rw c.as_bytes.ensures.value at c.in-Some.ensures) (sym c.is_empty.ensures ∙ c.if-not-is_empty.false))

pub returns-in-None : goal.returns-in-None
returns-in-None c = broken_front_tested c.args.text.now (rw c.as_bytes.ensures.value at c.in-None.ensures)
