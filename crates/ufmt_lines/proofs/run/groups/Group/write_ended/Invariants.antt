-- The outputs for the first groups were written, or gathered, and the rest is the group that is being read and what follows.
use Rattle.std.proofs.Common.{◌≡◌, ◌++◌, [], ℕ, List, false, length}
use Rattle.ufmt_lines.specs.Output.{WritesFront}
use Rattle.ufmt_lines.specs.Private.Group.{Gathers, IsReading, conversion_of, gathered, group_bytes, mode_of}
use Rattle.ufmt_lines.specs.Private.WholeLines.{EndsLine}
use Rattle.ufmt_io.specs.Watched.{device_of, has_failed, has_given_up}
use Rattle.ufmt_lines.proofs.run.groups.Group.write_ended.Given as goal

abbrev pub invariant-ended : goal.invariant-ended
invariant-ended g l = record {
  works : has_failed l.output ≡ false;
  writes_on : has_given_up l.output ≡ has_given_up l.initial.output;
  conversion : conversion_of l.self ≡ conversion_of l.initial.self;
  reading : IsReading (mode_of l.initial.self) l.self;
  whole : EndsLine l.lines;
  middle : List ℕ;
  so_far : WritesFront (conversion_of l.initial.self) (group_bytes l.initial.self ++ l.bytes) middle
      (g.W.Write.contents (device_of l.initial.output)) (g.W.Write.contents (device_of l.output));
  gathers : Gathers (conversion_of l.initial.self) middle (group_bytes l.self ++ (l.lines ++ l.last)) [] (gathered l.self);
}

abbrev pub decreases-ended : goal.decreases-ended
decreases-ended g l = length l.lines
