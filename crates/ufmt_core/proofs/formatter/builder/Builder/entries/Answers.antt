use Rattle.std.proofs.Common.{rules, true}
use Rattle.ufmt_core.proofs.Blocks.{WritesEntries-stopped, WritesRow-more}
use Rattle.ufmt_core.proofs.formatter.builder.Builder.entries.Goals as goal

pub returns-in_err-entry-clause-entries : goal.returns-in_err-entry-clause-entries
returns-in_err-entry-clause-entries g c =
    let begun = c.into_iter-entry-iterator in
    WritesEntries-stopped g.I.IntoIter.Iterator.next_gives _ begun.result c.loop-entry.entry-iterator c.next.new.self _
    c.from_residual.ensures.0 begun.ensures.into_iter_gives c.loop-entry.yielded_by c.in-Some.ensures.steps c.loop-entry.invariant.row c.in_err-entry.ensures.entry

pub loop-entry-preserved : goal.loop-entry-preserved
loop-entry-preserved g c = record {
  can = search rules;
  ends = search rules;
  row = WritesRow-more _ _ _ true c.loop-entry.invariant.row c.in_ok-entry.ensures.entry;
}
