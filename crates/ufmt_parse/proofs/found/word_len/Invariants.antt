use Rattle.std.proofs.Common.{◌≡◌, ◌+◌, length}
use Rattle.ufmt_parse.specs.Finding.{word_len}
use Rattle.ufmt_parse.proofs.found.word_len.Given as goal

-- the bytes at the front that are left complete those that were counted
abbrev pub invariant-bytes : goal.invariant-bytes
invariant-bytes l = record {
  len : l.len + word_len l.rest ≡ word_len l.fn.text;
  within : l.len + length l.rest ≡ length l.fn.text;
}

abbrev pub decreases-bytes : goal.decreases-bytes
decreases-bytes l = length l.rest
