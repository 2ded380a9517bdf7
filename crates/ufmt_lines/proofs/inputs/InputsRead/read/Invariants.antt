-- What is read is within the buffer, and each turn opens an input.
use Rattle.std.proofs.Common.{◌-◌, ◌≤◌, length}
use Rattle.ufmt_lines.proofs.inputs.InputsRead.read.Given as goal

abbrev pub invariant-loop-count : goal.invariant-loop-count
invariant-loop-count g l = l.count ≤ length l.buffer

abbrev pub decreases-loop-count : goal.decreases-loop-count
decreases-loop-count g l = length l.self.names.now - l.self.tried
