use Rattle.std.proofs.Common.{◌≡◌, ◌<◌, length}
use Rattle.ufmt_parse_leaves.specs.Private.Digits.{after_digits, value_after}
use Rattle.ufmt_parse_leaves.proofs.digits.split_many.Given as goal

-- the digits that are left complete the number
abbrev pub invariant-sixteens : goal.invariant-sixteens
invariant-sixteens g l = record {
  value : value_after (g.N.Magnitude.value l.n) l.rest ≡ value_after (g.N.Magnitude.value l.fn.start) l.fn.input;
  fits : g.N.Magnitude.value l.n < g.N.Magnitude.bound;
  after : after_digits l.rest ≡ after_digits l.fn.input;
}

abbrev pub decreases-sixteens : goal.decreases-sixteens
decreases-sixteens g l = length l.rest
