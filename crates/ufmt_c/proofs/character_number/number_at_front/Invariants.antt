use Rattle.std.proofs.Common.{◌≡◌, length}
use Rattle.ufmt_c.specs.Private.CharacterNumbers.{number_from}
use Rattle.ufmt_c.proofs.character_number.number_at_front.Given as goal

-- what is left continues the number
abbrev pub invariant-digits : goal.invariant-digits
invariant-digits l = number_from 0 l.fn.digits ≡ number_from l.number l.rest

abbrev pub decreases-digits : goal.decreases-digits
decreases-digits l = length l.rest
