-- The events so far, and what is left, before each turn.
use Rattle.std.proofs.Common.{◌<◌, ◌≤◌, length}
use Rattle.ufmt_scan.specs.Private.Scanning.{Emits, scan_ends, open_stages}
use Rattle.ufmt_scan.proofs.scan.end_entries.Given as goal

abbrev pub invariant-ends : goal.invariant-ends
invariant-ends g l = record {
  emitted : Emits g.S.Sink.took g.S.Sink.took l.fn.sink l.sink (scan_ends l.class l.mode (open_stages l.fn.blocks l.outer) l.input)
      (scan_ends l.class l.mode (open_stages l.open l.outer) l.rest);
  within : length l.rest ≤ length l.input;
  few : l.open.count < 256;
}

abbrev pub decreases-ends : goal.decreases-ends
decreases-ends g l = l.open.count
