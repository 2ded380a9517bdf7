use Rattle.std.proofs.Common.{rules, true}
use Rattle.ufmt_core.proofs.Blocks.{WritesEntries-stopped, WritesRow-more}
use Rattle.ufmt_core.proofs.map.DebugMap+W.entries.Goals as goal

pub returns-in_err-entry-clause-entries : goal.returns-in_err-entry-clause-entries
returns-in_err-entry-clause-entries g c =
    let begun = c.into_iter-key-iterator in
    WritesEntries-stopped g.I.IntoIter.Iterator.next_gives _ begun.result c.loop-key.key-iterator c.next.new.self _
    c.from_residual.ensures.0 begun.ensures.into_iter_gives c.loop-key.yielded_by c.in-Some.ensures.steps c.loop-key.invariant.row c.in_err-entry.ensures.entry

pub loop-key-preserved : goal.loop-key-preserved
loop-key-preserved g c = record {
  can = search rules;
  ends = search rules;
  row = WritesRow-more _ _ _ true c.loop-key.invariant.row c.in_ok-entry.ensures.entry;
}
