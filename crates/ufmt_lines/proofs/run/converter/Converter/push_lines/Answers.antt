use Rattle.std.proofs.Common.{refl}
use Rattle.std.proofs.lemmas.List.{take_rest}
use Rattle.ufmt_lines.proofs.LinesTogether.{all_pushed, left_ends, lines_pushed, nothing_follows}
use Rattle.ufmt_values.proofs.Unclosed.{none_at_end}
use Rattle.ufmt_lines.proofs.run.converter.Converter.push_lines.Goals as goal

pub push_values-requires : goal.push_values-requires
push_values-requires c = λ place past. none_at_end c.args.lines.now place past

pub returns-in_default-clause-ok : goal.returns-in_default-clause-ok
returns-in_default-clause-ok c =
    rw take_rest (all_pushed c.args.self.now.conversion c.requires.pretty c.in_ok-front.front c.args.lines.now _ _ c.requires.whole c.in_ok-front.ensures.ok (rw take_rest at c.in_default.ensures))

pub returns-clause-whole : goal.returns-clause-whole
returns-clause-whole c = left_ends c.in_ok-front.front c.args.lines.now c.in-Some.line.now c.in-Some.left.now c.requires.whole (rw take_rest at c.in-Some.ensures.1)

pub returns-clause-ok : goal.returns-clause-ok
returns-clause-ok c =
    let line = nothing_follows c.args.self.now.conversion c.in-Some.line.now _ (c.in_ok-push_values.ensures.whole refl) _ _ (rw c.push_values.ensures.conversion at c.in_ok-push_values.ensures.ok) in
    lines_pushed c.args.self.now.conversion c.requires.pretty c.in_ok-front.front c.args.lines.now _ _ c.requires.whole c.in_ok-front.ensures.ok
    c.in-Some.line.now c.in-Some.left.now _ c.in-Some.ensures.0 (rw take_rest at c.in-Some.ensures.1) line

pub values_end-end-requires : goal.values_end-end-requires
values_end-end-requires c = λ place past. none_at_end c.in-Some.line.now place past

pub push_values-requires-2 : goal.push_values-requires-2
push_values-requires-2 c = c.values_end-end.ensures
