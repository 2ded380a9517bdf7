-- A text in a column of less than its width shows the same in a buffer.
use Rattle.std.proofs.Common.{◌≡◌, inl, inr, refl, sym, ap, ap₂, if◌then◌else◌, ◌∙◌, Bool, true, false, ℕ, ◌+◌, ◌-◌, ◌*◌, ◌/◌, ◌^◌, ◌<◌, ◌≤◌, min, List, [], ◌∷◌, ◌++◌, length, take, append-nil, encode_utf8, length-append, arith}
use Rattle.std.proofs.Math.Nat.{add-mul, min-eq_left, zero-mul}
use Rattle.std.proofs.lemmas.Bool.{cases_lt}
use Rattle.std.specs.Fmt.{char_count, is_char_start}
use Rattle.std.specs.List.{repeat}
use Rattle.ufmt.specs.declared.column.Align.{Align}
use Rattle.ufmt.specs.declared.column.Align.TheVariants.{Left, Center, Right}
use Rattle.ufmt.specs.declared.column.Column.{Column}
use Rattle.ufmt.specs.Column.{fills_before, in_column, missing}
use Rattle.ufmt_c.specs.Calls.{reported}
use Rattle.ufmt_c.specs.Private.Narrow.{StandsFor}
use Rattle.ufmt_c.proofs.Fronts.{length-repeat, same_after, same_pieces}

-- each character has a byte
one_byte : (begins : Bool) (count length : ℕ) → count ≤ length → (if begins then 1 else 0) + count ≤ length + 1
one_byte true count length within = omega arith
one_byte false count length within = omega arith

characters_within : (text : List ℕ) → char_count text ≤ length text
unfolding char_count
characters_within [] = omega arith
characters_within (byte ∷ text) = omega (arith, one_byte (is_char_start byte) (char_count text) (length text) (characters_within text))

before_within : (align : Align) (count : ℕ) → fills_before align count ≤ count
before_within Left count = omega arith
before_within Center count = omega arith
before_within Right count = omega arith

module _ (text fill : List ℕ) where
  -- fills around the text, so many in all
  abbrev around : Align → ℕ → List ℕ
  around align count = let before = fills_before align count in repeat before fill ++ (text ++ repeat (count - before) fill)

  shows : (align : Align) (room m n : ℕ) → 0 < length fill → 2 * room ≤ m → 2 * room ≤ n → take room (around align m) ≡ take room (around align n)
  shows Left room m n some more_m more_n =
      same_after room text (repeat (m - 0) fill) (repeat (n - 0) fill) (λ k within.
      ap (take k) (sym (append-nil (repeat (m - 0) fill))) ∙ same_pieces k (m - 0) (n - 0) fill [] [] some (omega arith) (omega arith)
      ∙ ap (take k) (append-nil (repeat (n - 0) fill)))
  shows Center room m n some more_m more_n = same_pieces room (m / 2) (n / 2) fill _ _ some (omega arith) (omega arith)
  shows Right room m n some more_m more_n = same_pieces room m n fill _ _ some (omega arith) (omega arith)

  length-around : (align : Align) (count : ℕ) → length (around align count) ≡ length text + count * length fill
  length-around align count =
      let before = fills_before align count in
      let split : before + (count - before) ≡ count = omega (arith, before_within align count) in
      omega (
        arith,
        length-append (repeat before fill) (text ++ repeat (count - before) fill),
        length-append text (repeat (count - before) fill),
        length-repeat before fill,
        length-repeat (count - before) fill,
        add-mul before (count - before) (length fill),
        ap (λ n. n * length fill) split,
      )

module _ (room : ℕ) (text : List ℕ) (column : Column) (some : 0 < length (encode_utf8 column.fill)) where
  abbrev narrow : ℕ → Column
  narrow width = record column { width = width }

  narrower : (width rest : ℕ) → width ≡ 2 * room + length text → width ≤ column.width → rest ≡ reported ((column.width - width) * length (encode_utf8 column.fill))
      → StandsFor room (in_column (narrow width) text) rest (in_column column text)
  narrower width rest is less counts =
      let characters = characters_within text in
      let fill = encode_utf8 column.fill in
      let few = missing (narrow width) text in
      let more : missing column text ≡ few + (column.width - width) = omega arith in
      record {
        front = shows text fill column.align room (missing column text) few some (omega arith) (omega arith);
        longer = omega (
          arith,
          length-around text fill column.align (missing column text),
          length-around text fill column.align few,
          ap (λ n. n * length fill) more,
          add-mul few (column.width - width) (length fill),
        );
      }

  as_wide : (width rest : ℕ) → width ≡ column.width → rest ≡ reported ((column.width - width) * length (encode_utf8 column.fill))
      → StandsFor room (in_column (narrow width) text) rest (in_column column text)
  as_wide width rest is counts =
      let fill = length (encode_utf8 column.fill) in
      let equal : column.width - width ≡ 0 = omega arith in
      let none : rest ≡ 0 = omega (arith, counts, ap (λ n. n * fill) equal, zero-mul fill) in
      rw is (record { front = refl; longer = omega arith })

  -- a width that is cut after the text and twice the buffer
  pub stands_column : (width rest : ℕ) → column.width < 2 ^ 64 → width ≡ min column.width (reported (2 * room + length text))
      → rest ≡ reported ((column.width - width) * length (encode_utf8 column.fill)) → StandsFor room (in_column (narrow width) text) rest (in_column column text)
  stands_column width rest fits is counts = elim (cases_lt column.width (reported (2 * room + length text))) [
    | inl less ↦ as_wide width rest (is ∙ min-eq_left (omega arith)) counts
    | inr more ↦ elim (cases_lt (2 * room + length text) (2 ^ 64 - 1)) [
      | inl small ↦ narrower width rest (omega (arith, is, more, small)) (omega (arith, is, more)) counts
      | inr large ↦ as_wide width rest (omega (arith, is, more, large, fits)) counts
    ]
  ]

-- a line of the text, in a column that is narrower
pub stands_line : (room : ℕ) (text input : List ℕ) (whole column narrow : Column) (rest fill : ℕ) → column ≡ whole → text ≡ input → column.width < 2 ^ 64
    → narrow ≡ record column { width = min column.width (reported (2 * room + length input)) } → fill ≡ length (encode_utf8 column.fill) → 1 ≤ fill
    → rest ≡ min ((column.width - narrow.width) * fill) (2 ^ 64 - 1) → StandsFor room (in_column narrow (text ++ []) ++ []) rest (in_column whole input)
stands_line room text input whole column narrow rest fill is_whole is_text fits is_narrow is_fill some counts =
    let width = min column.width (reported (2 * room + length input)) in
    let is_width : narrow.width ≡ width = ap (λ (c : Column). c.width) is_narrow in
    let more = ap₂ (λ w f. (column.width - w) * f) is_width is_fill in
    rw (append-nil, append-nil, is_text, is_narrow, ← is_whole) (stands_column room input column (omega arith) width rest fits refl (omega (arith, counts, more)))
