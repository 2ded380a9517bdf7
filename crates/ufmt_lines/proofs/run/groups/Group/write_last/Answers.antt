use Rattle.std.proofs.Common.{arith}
use Rattle.ufmt_lines.specs.Private.Group.{conversion_of, group_bytes}
use Rattle.ufmt_values.proofs.Unclosed.{none_at_end}
use Rattle.ufmt_lines.proofs.LinesTogether.{stays_whole}
use Rattle.ufmt_lines.proofs.Outcomes.{holds_of_error}
use Rattle.ufmt_lines.proofs.run.groups.Group.write_last.Goals as goal

pub next_bracket-requires-clause-end : goal.next_bracket-requires-clause-end
next_bracket-requires-clause-end g c = λ place past. let size = rw c.deref.ensures.value at c.deref.ensures.len in none_at_end _ place (omega (arith, past, c.len.ensures, size))

pub returns-in_default-clause-ok : goal.returns-in_default-clause-ok
returns-in_default-clause-ok g c =
    rw (stays_whole (conversion_of c.args.self.now) (group_bytes c.args.self.now) (rw c.deref.ensures.value at c.in_default.ensures)) (rw c.deref-in_default.ensures.value at c.write_some.ensures.ok)

pub returns-in_default-clause-cannot_write : goal.returns-in_default-clause-cannot_write
returns-in_default-clause-cannot_write g c = λ failed.
    rw (stays_whole (conversion_of c.args.self.now) (group_bytes c.args.self.now) (rw c.deref.ensures.value at c.in_default.ensures))
    (holds_of_error c.write_some.result _ _ failed (rw c.deref-in_default.ensures.value at c.write_some.ensures.cannot_write))
