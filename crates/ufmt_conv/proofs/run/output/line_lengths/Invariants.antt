-- The lengths so far, and those ahead with what is counted, are those of the whole text.
use Rattle.std.proofs.Common.{◌≡◌, ◌≤◌, ◌++◌, drop}
use Rattle.ufmt_conv.specs.Output.{line_lengths}
use Rattle.ufmt_conv.proofs.Lines.{longer_first}
use Rattle.ufmt_conv.proofs.run.output.line_lengths.Given as goal

abbrev pub invariant-loop-byte : goal.invariant-loop-byte
invariant-loop-byte l = record {
  within : l.length ≤ l.byte-index;
  all : l.lengths.items ++ longer_first l.length (line_lengths (drop l.byte-index l.input)) ≡ line_lengths l.input;
}
