use Rattle.std.proofs.Common.{arith, codes, refl}
use Rattle.std.proofs.lemmas.Str.{is_utf8-from_IsUtf8}
use Rattle.ufmt.specs.Leaves.{outside}
use Rattle.ufmt_parse.proofs.core_impls.ranges.RangeFulluParse.parse_from.Goals as goal

-- two dots are a leaf of a debug document
pub returns-then-eat-clause-taken : goal.returns-then-eat-clause-taken
unfolding lib.Utf8.encode
returns-then-eat-clause-taken g c = (
  c.if-eat.ensures.eats,
  (
    record {
      some = λ none. absurd (cc);
      pieces = (outside, refl, (outside, refl, refl));
      utf8 = is_utf8-from_IsUtf8 (codes "..") (codes "..", (refl, refl));
    },
    omega (arith, c.eat.ensures.counted),
  ),
)
