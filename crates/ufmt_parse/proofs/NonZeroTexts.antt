-- Nonzero numbers have other texts than 0.
use Rattle.std.proofs.Common.{◌≡◌, ◌≢◌, ◌∙◌, sym, ap, ◌<◌, ◌++◌, ℕ, ℤ, pos, nat_abs, Option, Some, None, arith}
use Rattle.std.specs.Prelude.{MatchOption}
use Rattle.std.proofs.lemmas.List.{append_cancel_right}
use Rattle.ufmt.specs.Document.{Document, leaf}
use Rattle.ufmt.specs.Layout.{layout}
use Rattle.ufmt_core.specs.Decimal.{decimal}
use Rattle.ufmt_core.specs.declared.layout.Mode.{Mode}
use Rattle.ufmt_core.specs.declared.layout.Setting.{Setting}
use Rattle.ufmt_parser.specs.declared.parser.Parser.{Parser}
use Rattle.ufmt_parser.specs.Next.{IsNotNext, NextLeaves}
use Rattle.ufmt_parser.specs.Taking.{IsTaken, open_blocks, rest, setting_in}
use Rattle.ufmt_parse.proofs.NumberKeys.{same_decimal}

pub natural_texts : (n m : ℕ) → 0 < n → m ≡ 0 → decimal (pos n) ≢ decimal (pos m)
natural_texts n m some none same =
    let equal : n ≡ m = ap nat_abs (same_decimal (pos n) (pos m) same) in absurd (omega (arith, equal, some, none))

integer_texts : (y z : ℤ) → y ≢ pos 0 → z ≡ pos 0 → decimal y ≢ decimal z
integer_texts y z some none same = some (same_decimal y z same ∙ none)

-- the nonzero integer is there, or the integer is 0
module _ {T : Type 0} (in_range : T → Type 0) (get : T → ℤ) (some : (v : T) → in_range v → get v ≢ pos 0) (z : ℤ) where
  pub integer_found : (outcome : Option T) → MatchOption outcome (z ≡ pos 0) (λ v. get v ≡ z)
      → MatchOption outcome (Setting → (v : T) → in_range v → decimal (get v) ≢ decimal z) (λ v. leaf (decimal (get v)) ≡ leaf (decimal z))
  integer_found None is = λ s v holds. integer_texts (get v) z (some v holds) is
  integer_found (Some v) is = ap (λ y. leaf (decimal y)) is

-- where a 0 was taken, no nonzero number's text comes next
module _ {M T N : Type 0} (mode : Mode) (document : T → Document) (number : N) (of_number : N → Document) (old new : Parser M)
    (taken : IsTaken mode old (of_number number) new) where
  pub zero_refused : (v : T) → ((s : Setting) → layout s (document v) ≢ layout s (of_number number)) → NextLeaves mode old (document v) new → IsNotNext mode old (document v)
  unfolding IsNotNext NextLeaves
  zero_refused v differs leaves = λ u next.
      differs (setting_in mode (open_blocks old))
      (append_cancel_right _ _ (rest new) (ap (λ t. layout (setting_in mode (open_blocks old)) (document v) ++ t) (sym (leaves u next)) ∙ sym next.2 ∙ taken.0))
