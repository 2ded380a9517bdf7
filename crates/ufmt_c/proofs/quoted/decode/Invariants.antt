use Rattle.std.proofs.Common.{◌≡◌, ◌++◌, ℕ, List, length}
use Rattle.ufmt.specs.Quoted.{escaped_bytes}
use Rattle.ufmt_c.specs.Calls.{HasPut}
use Rattle.ufmt_c.proofs.quoted.decode.Given as goal

-- the bytes that were decoded so far
abbrev pub invariant-bytes : goal.invariant-bytes
invariant-bytes l = (bytes : List ℕ) × (l.input ≡ escaped_bytes 34 bytes ++ l.rest) × (l.length ≡ length bytes) × HasPut l.fn.buffer bytes l.buffer

abbrev pub decreases-bytes : goal.decreases-bytes
decreases-bytes l = length l.rest
