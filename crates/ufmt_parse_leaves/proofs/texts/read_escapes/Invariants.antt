use Rattle.std.proofs.Common.{◌≡◌, ◌++◌, length, string_bytes}
use Rattle.ufmt_core.specs.Quoted.{escaped_bytes}
use Rattle.ufmt_parse_leaves.proofs.texts.read_escapes.Given as goal

-- the bytes that were read, and what is left to read
abbrev pub invariant-escapes : goal.invariant-escapes
invariant-escapes g l = escaped_bytes 34 (string_bytes l.text) ++ l.rest ≡ l.fn.plain ++ l.fn.input

abbrev pub decreases-escapes : goal.decreases-escapes
decreases-escapes g l = length l.rest
