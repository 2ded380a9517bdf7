use Rattle.std.proofs.Common.{◌≡◌, ◌<◌, ◌^◌, suc}
use Rattle.ufmt_parse_leaves.specs.Private.Digits.{after_digits, value_after}
use Rattle.ufmt_parse_leaves.proofs.digits.split_digits.Given as goal

-- the digits that are left complete the number, which has a digit more at each turn
abbrev pub invariant-few : goal.invariant-few
invariant-few g l = record {
  value : value_after l.n l.rest ≡ value_after l.fn.start l.fn.input;
  after : after_digits l.rest ≡ after_digits l.fn.input;
  below : l.n < 10 ^ suc l.counter;
}
