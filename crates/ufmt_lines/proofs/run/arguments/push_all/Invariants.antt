-- The names so far, and then the rest.
use Rattle.std.proofs.Common.{◌≡◌, ◌++◌, length, map, string_bytes}
use Rattle.ufmt_lines.proofs.run.arguments.push_all.Given as goal

abbrev pub invariant-loop-word : goal.invariant-loop-word
invariant-loop-word l = map (λ name. name.now) l.names.items ++ map string_bytes l.rest ≡ map (λ name. name.now) l.initial.names.items ++ map string_bytes l.words

abbrev pub decreases-loop-word : goal.decreases-loop-word
decreases-loop-word l = length l.rest
