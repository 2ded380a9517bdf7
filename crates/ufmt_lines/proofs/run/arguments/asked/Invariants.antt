-- What is asked for is what the rest asks for, after what was read.
use Rattle.std.proofs.Common.{◌≡◌, false, length, map, string_bytes}
use Rattle.ufmt_lines.specs.Arguments.{asked_after, asked_of}
use Rattle.ufmt_lines.proofs.run.arguments.asked.Given as goal

abbrev pub invariant-loop-word : goal.invariant-loop-word
invariant-loop-word l = asked_of (map string_bytes l.words) ≡ asked_after false l.is_plain l.limit (map string_bytes l.rest)

abbrev pub decreases-loop-word : goal.decreases-loop-word
decreases-loop-word l = length l.rest
