-- Which values of a line become pretty.
use Rattle.std.specs.Prelude.{◌≡◌, ◌<◌, ℕ, false, List, [], ◌∷◌, ◌++◌, length, ⊤}
use Rattle.ufmt.specs.Document.{Document, struct_of, non_exhaustive_of, tuple_of}
use Rattle.ufmt.specs.Layout.{plain_text, pretty_text}
use Rattle.ufmt.specs.Token.{IsDocument}
use Rattle.ufmt_grammar.specs.declared.class.Class.TheVariants.{Debug}
use Rattle.ufmt_lines.specs.OutputLaws.{pretty_with}
use Rattle.ufmt_lines.specs.Values.{could_be_struct, output_of}
use Rattle.ufmt_scan.specs.Fronts.{has_one_leaf}
use Rattle.ufmt_values.specs.Fronts.{MayNameFollow, OpensNothing, last_word}

-- a value may come after these bytes: one with a name where a name may, a tuple without a name where no name ends, and a list, a map or a set anywhere
abbrev pub MayFollowFront : List ℕ → Document → Type 0
MayFollowFront front (struct_of name fs) = MayNameFollow Debug front
MayFollowFront front (non_exhaustive_of name fs) = MayNameFollow Debug front
MayFollowFront front (tuple_of [] ds) = last_word front ≡ []
MayFollowFront front (tuple_of (c ∷ name) ds) = MayNameFollow Debug front
MayFollowFront front d = ⊤

-- none of the reasons for which a value stays: its text is longer than the limit, it has several leaves, and it isn't a map after a name whose first key could be a field's name
pub record HasNoReasonToStay (limit : ℕ) (front : List ℕ) (d : Document) (rest : List ℕ) : Type 0 where
  pub long : limit < length (plain_text d)
  pub leaves : has_one_leaf d ≡ false
  pub no_struct : could_be_struct (front ++ (plain_text d ++ rest)) 0 (length front) ≡ false

-- the plain text of such a value becomes its pretty text, after bytes that open nothing. What follows it is converted as if nothing were before it
abbrev pub LongValuesBecomePretty : Type 0
LongValuesBecomePretty = (limit : ℕ) (d : Document) (front rest : List ℕ) → IsDocument Debug d → HasNoReasonToStay limit front d rest → OpensNothing front → MayFollowFront front d
    → output_of (pretty_with limit) (front ++ (plain_text d ++ rest)) ≡ front ++ (pretty_text d ++ output_of (pretty_with limit) rest)
