-- A float with fewer zeros at its end shows the same in a buffer.
use Rattle.std.proofs.Common.{◌≡◌, inl, inr, refl, sym, ap, ◌∙◌, ℕ, zero, suc, ◌+◌, ◌-◌, ◌<◌, ◌≤◌, min, List, [], ◌∷◌, ◌++◌, length, take, replicate, append-nil, length-append, arith}
use Rattle.std.proofs.lemmas.Bool.{cases_lt}
use Rattle.std.proofs.lemmas.List.{length-replicate, take-replicate}
use Rattle.std.specs.Fmt.{char_count}
use lib.Utf8.{encode}
use Rattle.std.specs.List.{repeat}
use Rattle.ufmt.specs.declared.column.Column.{Column}
use Rattle.ufmt.specs.Column.{in_column}
use Rattle.ufmt_c.specs.Private.Narrow.{StandsFor, zeros_column}
use Rattle.ufmt_c.proofs.Fronts.{same_after}

-- bytes, one by one
repeat_is : (count byte : ℕ) → repeat count (byte ∷ []) ≡ replicate count byte
repeat_is zero byte = refl
repeat_is (suc count) byte = ap (λ bytes. byte ∷ bytes) (repeat_is count byte)

-- the column has its zeros
pub in_zeros : (width : ℕ) → in_column (zeros_column width) [] ≡ replicate width 48
unfolding char_count encode
in_zeros width = let same : width - 0 - 0 ≡ width = omega arith in ap (λ n. repeat n (48 ∷ [])) same ∙ repeat_is width 48

-- as many of the zeros as there is room for
pub stands_fixed : (room zeros shown : ℕ) (digits : List ℕ) → shown ≡ min zeros room
    → StandsFor room (digits ++ (in_column (zeros_column shown) [] ++ [])) (zeros - shown) (digits ++ replicate zeros 48)
stands_fixed room zeros shown digits is =
    rw (append-nil, in_zeros) (record {
      front = same_after room digits (replicate zeros 48) (replicate shown 48) (λ k within. same k within);
      longer = omega (arith, length-append digits (replicate {A = ℕ} zeros 48), length-append digits (replicate {A = ℕ} shown 48), length-replicate {A = ℕ} zeros 48, length-replicate {A = ℕ} shown 48);
    })
  where
    same : (k : ℕ) → k ≤ room → take {A = ℕ} k (replicate zeros 48) ≡ take k (replicate shown 48)
    same k within = let byte : ℕ = 48 in elim (cases_lt zeros k) [
      | inl few ↦ (let all : zeros ≡ shown = omega arith in ap (λ n. take k (replicate {A = ℕ} n 48)) all)
      | inr many ↦ take-replicate k zeros byte many ∙ sym (take-replicate k shown byte (omega (arith, is, many, within)))
    ]

-- a line of the digits and a column of zeros shows in a buffer what the whole text would
pub stands_line : (room zeros shown : ℕ) (line digits whole : List ℕ) (column : Column) → shown ≡ min zeros room → column ≡ zeros_column shown
    → line ≡ digits → digits ++ replicate zeros 48 ≡ whole → StandsFor room (line ++ (in_column column [] ++ [])) (zeros - shown) whole
stands_line room zeros shown line digits whole column is is_column is_line is_whole = rw (is_column, is_line, ← is_whole) (stands_fixed room zeros shown digits is)
