use Rattle.std.proofs.Common.{subst}
use Rattle.ufmt_lines.specs.Private.Group.{conversion_of}
use Rattle.ufmt_lines.specs.Private.WholeLines.{EndsLine}
use Rattle.ufmt_lines.proofs.Fronts.{with_rest}
use Rattle.ufmt_lines.proofs.LinesTogether.{ends_left, some_line}
use Rattle.ufmt_lines.proofs.run.groups.Group.end_first.Goals as goal

pub unreachable-requires : goal.unreachable-requires
unreachable-requires c = some_line c.args.lines.now c.requires.whole c.requires.some c.in_default.ensures

pub returns-clause-whole : goal.returns-clause-whole
returns-clause-whole c = ends_left c.in-Some.line.now c.in-Some.others.now (subst EndsLine c.in-Some.ensures.1 c.requires.whole)

pub returns-clause-ok : goal.returns-clause-ok
returns-clause-ok c = with_rest (conversion_of c.args.self.now) _ c.in-Some.line.now c.in-Some.others.now c.args.lines.now _ _ _ c.in-Some.ensures.1 c.in_ok-end_line.ensures.ok
