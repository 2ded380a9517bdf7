use Rattle.std.proofs.Common.{◌∙◌, sym}
use Rattle.std.proofs.lemmas.Result.{IfOk-weaker}
use Rattle.ufmt_lines.specs.Private.Group.{conversion_of, group_bytes}
use Rattle.ufmt_lines.proofs.LinesTogether.{from_nothing, no_length}
use Rattle.ufmt_lines.proofs.run.groups.Group.end_lines.Goals as goal

pub returns-in-Pretty-clause-ok : goal.returns-in-Pretty-clause-ok
returns-in-Pretty-clause-ok c =
    IfOk-weaker c.push_lines.result _ _ (λ left pushed. from_nothing (conversion_of c.args.self.now) c.in-Pretty.is (group_bytes c.args.self.now) c.args.lines.now left.now _ _
    (no_length (group_bytes c.args.self.now) (rw c.args.self.now.bytes.ok.0 at (sym c.is_empty.ensures ∙ c.if-is_empty.true))) pushed) c.push_lines.ensures.ok
