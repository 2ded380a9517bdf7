use Rattle.std.proofs.Common.{◌≡◌, ◌++◌, length}
use Rattle.ufmt_core.specs.Quoted.{escaped_bytes}
use Rattle.ufmt_parse_leaves.proofs.texts.read_bytes.Given as goal

-- the bytes that were read, and what is left to read
abbrev pub invariant-escapes : goal.invariant-escapes
invariant-escapes g l = escaped_bytes 34 l.bytes.items ++ l.rest ≡ escaped_bytes 34 l.fn.bytes.items ++ l.fn.input

abbrev pub decreases-escapes : goal.decreases-escapes
decreases-escapes g l = length l.rest
