use Rattle.std.proofs.Common.{◌≡◌, ◌+◌, length}
use Rattle.ufmt_parse_leaves.specs.Private.FloatBytes.{after_float, float_len}
use Rattle.ufmt_parse_leaves.proofs.floats.split_front.Given as goal

-- the bytes at the front that are left complete those that were counted
abbrev pub invariant-bytes : goal.invariant-bytes
invariant-bytes l = record {
  len : l.len + float_len l.rest ≡ float_len l.fn.input;
  after : after_float l.rest ≡ after_float l.fn.input;
  within : l.len + length l.rest ≡ length l.fn.input;
}

abbrev pub decreases-bytes : goal.decreases-bytes
decreases-bytes l = length l.rest
