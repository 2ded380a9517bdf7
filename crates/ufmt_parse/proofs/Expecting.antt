-- The end is expected only after a value.
use Rattle.std.proofs.Common.{◌≡◌, ◌≢◌}
use Rattle.ufmt_parser.specs.declared.need.Need.{Need}
use Rattle.ufmt_parser.specs.declared.need.Need.TheVariants as need
use Rattle.ufmt_parse.specs.declared.expected.Expected.TheVariants.{End}
use Rattle.ufmt_parse.specs.Expecting.{expected_of}

pub never_end : (n : Need) → expected_of n ≢ End
never_end need.Name is = absurd (cc)
never_end need.Number is = absurd (cc)
never_end need.Character is = absurd (cc)
never_end need.Text is = absurd (cc)
never_end need.Punctuation is = absurd (cc)
never_end need.Order is = absurd (cc)
never_end need.Count is = absurd (cc)
