use Rattle.std.proofs.Common.{sym}
use Rattle.ufmt_lines.proofs.GroupEnds.{bracket_continues, cut_ends, first_ends, indented_continues, last_ends, pretty_ends}
use Rattle.ufmt_lines.proofs.run.groups.end_of_group.Goals as goal

pub returns-in-Pretty : goal.returns-in-Pretty
returns-in-Pretty c = λ lines is is_open. pretty_ends c.args.mode lines c.args.line.now is_open c.requires c.in-Pretty.is

pub returns-in-true-true : goal.returns-in-true-true
returns-in-true-true c = λ lines is is_open. bracket_continues c.args.mode lines c.args.line.now is_open c.requires c.in-Plain.is (sym c.in-true-true.ensures) (sym c.in-true-true.ensures')

pub returns-in-true-false : goal.returns-in-true-false
returns-in-true-false c = λ lines is is_open.
    cut_ends c.args.mode lines c.args.line.now c.word_start.result c.in-Plain.is is_open c.requires (sym c.in-true-false.ensures) (sym c.in-true-false.ensures') c.word_start.ensures.start

pub returns-in-false-true : goal.returns-in-false-true
returns-in-false-true c = λ lines is is_open.
    indented_continues c.args.mode lines c.args.line.now is_open c.requires c.in-Plain.is c.args.inside (sym c.in-false-true.ensures) (sym c.in-false-true.ensures') is c.if-inside.true

pub returns-in-false-default : goal.returns-in-false-default
returns-in-false-default c = λ lines is is_open.
    first_ends c.args.mode lines c.args.line.now is_open c.requires c.in-Plain.is c.args.inside (sym c.in-false-true.ensures) is c.if-inside.false

pub returns-in-false-default-2 : goal.returns-in-false-default-2
returns-in-false-default-2 c = λ lines is is_open.
    last_ends c.args.mode lines c.args.line.now is_open c.requires c.in-Plain.is (sym c.in-false-default.ensures) (sym c.in-false-default.ensures')
