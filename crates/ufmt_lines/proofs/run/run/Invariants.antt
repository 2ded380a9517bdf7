-- What was read is whole groups of lines, whose outputs were written, and the group that is being read.
use Rattle.std.proofs.Common.{◌≡◌, ◌<◌, ◌≤◌, ◌-◌, ◌^◌, [], false, length, vec_len}
use Rattle.ufmt_lines.specs.Output.{ReadsAndWrites}
use Rattle.ufmt_lines.specs.Private.Group.{IsReading, conversion_of, gathered, group_bytes}
use Rattle.ufmt_io.specs.Watched.{device_of, has_failed, has_given_up}
use Rattle.ufmt_lines.proofs.run.run.Given as goal

abbrev pub invariant-reads : goal.invariant-reads
invariant-reads g l = record {
  input_works : has_failed l.input ≡ false;
  output_works : has_failed l.output ≡ false;
  turns : l.turns ≤ 2 ^ 64 - 1;
  reads_on : has_given_up l.input ≡ has_given_up l.initial.input;
  writes_on : has_given_up l.output ≡ has_given_up l.initial.output;
  conversion : conversion_of l.group ≡ l.fn.conversion;
  reading : IsReading l.fn.conversion.to l.group;
  none : gathered l.group ≡ [];
  room : 0 < vec_len l.chunk;
  so_far : ReadsAndWrites l.fn.conversion (λ rest. rest ≡ group_bytes l.group) (g.R.Read.remaining (device_of l.initial.input)) (g.R.Read.remaining (device_of l.input))
      (g.W.Write.contents (device_of l.initial.output)) (g.W.Write.contents (device_of l.output));
  each : l.turns ≤ length so_far.text;
}

abbrev pub decreases-reads : goal.decreases-reads
decreases-reads g l = 2 ^ 64 - 1 - l.turns
