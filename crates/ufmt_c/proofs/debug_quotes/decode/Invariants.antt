use Rattle.std.proofs.Common.{◌≡◌, ◌++◌, ℕ, List, length}
use Rattle.std.specs.Str.{encode_utf8_all}
use Rattle.ufmt_c.specs.Calls.{HasPut}
use Rattle.ufmt_c.specs.DebugQuotes.{AreSpelled}
use Rattle.ufmt_c.proofs.debug_quotes.decode.Given as goal

-- the characters that were decoded so far, and what is written of them
abbrev pub invariant-characters : goal.invariant-characters
invariant-characters l = (cs : List ℕ) × (text : List ℕ) × (l.input ≡ text ++ l.rest) × AreSpelled cs text
    × (l.length ≡ length (encode_utf8_all cs)) × HasPut l.fn.buffer (encode_utf8_all cs) l.buffer

abbrev pub decreases-characters : goal.decreases-characters
decreases-characters l = length l.rest
