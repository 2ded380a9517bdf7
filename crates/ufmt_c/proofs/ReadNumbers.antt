-- What a parser found at the front of a whole text, and which number's text the text is then.
use Rattle.std.proofs.Common.{◌≡◌, sym, ◌∙◌, ℕ, ℤ, ◌≤◌, List, [], ◌++◌, length, append-nil, length-append, ap, arith}
use Rattle.std.specs.Prelude.{◌≢◌, ◌-◌}
use Rattle.ufmt_core.specs.Decimal.{decimal}
use Rattle.ufmt_core.specs.Document.{leaf}
use Rattle.ufmt_core.specs.declared.layout.Mode.TheVariants.{Plain}
use Rattle.ufmt_grammar.specs.declared.class.Class.TheVariants.{Debug}
use Rattle.ufmt_grammar.specs.Leaves.{MayFollow}
use Rattle.ufmt_grammar.proofs.ClassTokens.{tokens_are_debug}
use Rattle.ufmt_grammar.specs.Token.{IsDebugDocument}
use Rattle.ufmt_grammar.proofs.NumbersAreWords.{IsBuilt-integer}
use Rattle.ufmt_parser.proofs.Next.{never_next, what_is_left}
use Rattle.ufmt_parser.specs.Next.{IsNotNext, NextLeaves}
use Rattle.ufmt_parser.specs.Taking.{IsNext, open_blocks, rest}
use Rattle.ufmt_parser.specs.declared.parser.Parser.{Parser}
use Rattle.ufmt_c.specs.Numbers.{StopsBeingNumber}

module _ {M T : Type 0} (is_number : T → Type 0) (text_of : T → List ℕ) (are_leaves : (n : T) → is_number n → IsDebugDocument (leaf (text_of n)))
    (input : List ℕ) (old : Parser M) (whole : rest old ≡ input) (outermost : open_blocks old ≡ 0) where
  -- the text at the front comes next
  text_next : (n : T) (u : List ℕ) → is_number n → MayFollow Debug u → input ≡ text_of n ++ u → IsNext Plain old (leaf (text_of n)) u
  text_next n u is may same = (((are_leaves n is).0, omega (arith, outermost)), may, whole ∙ same)

  -- a whole text has nothing after it
  all : (n : T) → input ≡ text_of n → input ≡ text_of n ++ []
  all n same = same ∙ sym (append-nil (text_of n))

  -- no number was found
  module _ (none : (n : T) → is_number n → IsNotNext Plain old (leaf (text_of n))) where
    pub not_after : (n : T) (u : List ℕ) → is_number n → MayFollow Debug u → input ≢ text_of n ++ u
    not_after n u is may same = never_next _ _ _ (none n is) u (text_next n u is may same)

    pub no_number : (n : T) → is_number n → input ≢ text_of n
    no_number n is same = not_after n [] is tt (all n same)

    pub stops_anywhere : (place : ℕ) → place ≤ length input → StopsBeingNumber is_number text_of input place
    stops_anywhere place within = record { within = within; after_number = λ n u is may same. absurd (not_after n u is may same) }

  -- a number was found, and this is left
  module _ (new : Parser M) (only : (n : T) → is_number n → NextLeaves Plain old (leaf (text_of n)) new) where
    pub left_after : (n : T) (u : List ℕ) → is_number n → MayFollow Debug u → input ≡ text_of n ++ u → u ≡ rest new
    left_after n u is may same = what_is_left _ _ _ new (only n is) u (text_next n u is may same)

    pub more_than_number : (length (rest new) ≡ 0 → ⊥) → (n : T) → is_number n → input ≢ text_of n
    more_than_number some n is same = some (ap length (sym (left_after n [] is tt (all n same))))

    pub stops_after : (place : ℕ) → place ≡ length input - length (rest new) → StopsBeingNumber is_number text_of input place
    stops_after place at = record {
      within = omega (arith, at);
      after_number = λ n u is may same.
          omega (arith, at, ap length (left_after n u is may same), ap length same, length-append (text_of n) u);
    }

-- the digits of a whole number are a leaf
pub digits_are_leaf : (z : ℤ) → IsDebugDocument (leaf (decimal z))
digits_are_leaf z = tokens_are_debug (leaf (decimal z)) (IsBuilt-integer z, omega arith)
