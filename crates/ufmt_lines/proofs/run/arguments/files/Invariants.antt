-- The names so far, and then those in the rest.
use Rattle.std.proofs.Common.{◌≡◌, ◌++◌, false, length, map, string_bytes}
use Rattle.ufmt_lines.specs.Arguments.{files_after}
use Rattle.ufmt_lines.proofs.run.arguments.files.Given as goal

abbrev pub invariant-loop-word : goal.invariant-loop-word
invariant-loop-word l = map (λ name. name.now) l.names.items ++ files_after false (map string_bytes l.rest) ≡ files_after false (map string_bytes l.words)

abbrev pub decreases-loop-word : goal.decreases-loop-word
decreases-loop-word l = length l.rest
