use Rattle.std.proofs.Common.{refl}
use Rattle.ufmt_lines.proofs.LinesTogether.{nothing_follows}
use Rattle.ufmt_values.proofs.Unclosed.{none_at_end}
use Rattle.ufmt_lines.proofs.run.converter.Converter.push_group.Goals as goal

pub push_values-requires : goal.push_values-requires
push_values-requires c = λ place past. none_at_end c.args.group.now place past

pub returns-clause-ok : goal.returns-clause-ok
returns-clause-ok c =
    nothing_follows c.args.self.now.conversion c.args.group.now _ (c.in_ok-push_values.ensures.whole refl) _ _ c.in_ok-push_values.ensures.ok
