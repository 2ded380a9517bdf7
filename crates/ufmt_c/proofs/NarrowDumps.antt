-- A dump whose row is longer than its bytes and the buffer shows the same in the buffer as one with a longer row.
use Rattle.std.proofs.Common.{◌≡◌, inl, inr, refl, sym, ap, ◌∙◌, if◌then◌else◌, ◌==◌, Bool, true, false, ℕ, zero, suc, ◌+◌, ◌-◌, ◌*◌, ◌/◌, ◌^◌, ◌<◌, ◌≤◌, min, List, [], ◌∷◌, ◌++◌, length, map, take, replicate, codes, append-nil, append_assoc, length-append, arith}
use Rattle.std.proofs.Math.Nat.{div-eq_of_lt, div-mul-le_self, min-eq_left, min-eq_right}
use Rattle.std.proofs.lemmas.Bool.{cases_lt}
use Rattle.std.proofs.lemmas.Bool.Decides.{nat_tests}
use Rattle.std.proofs.lemmas.List.{drop_all, length-map, length-replicate, take_all}
use Rattle.std.specs.List.{flat_map, join_by}
use Rattle.std.proofs.lemmas.Nat.{le-div}
use Rattle.ufmt_core.specs.Bytes.{space}
use Rattle.ufmt.specs.declared.dump.HexDump.{HexDump}
use Rattle.ufmt.specs.Dump.{bytes_per_group, bytes_per_row, chunks, digits_column, digits_width, dump_text, byte_digits, first_chunks, offset_column, row_text, rows_text, shown_byte}
use Rattle.ufmt.proofs.Dumps.{bytes_per_group-some}
use Rattle.ufmt_c.specs.Calls.{reported}
use Rattle.ufmt_c.specs.Private.Narrow.{StandsFor, left_out, row_width}
use Rattle.ufmt_c.proofs.Fronts.{same_after, same_bytes}

no_chunks : (count n : ℕ) → first_chunks count n [] ≡ []
no_chunks zero n = refl
no_chunks (suc count) n = refl

-- bytes that fit into a row are one
one_chunk : (n : ℕ) (bytes : List ℕ) → 0 < length bytes → length bytes ≤ n → chunks n bytes ≡ bytes ∷ []
one_chunk n [] some within = absurd (omega arith)
one_chunk n (byte ∷ bytes) some within =
    rw (take_all n (byte ∷ bytes) within, drop_all n (byte ∷ bytes) within) (ap (λ rest. (byte ∷ bytes) ∷ rest) (no_chunks (length bytes) n))

-- where a row's length is said, it is that
per_row_is : (dump : HexDump) → 0 < dump.per_row → bytes_per_row dump ≡ dump.per_row
per_row_is dump some = grind (arith, nat_tests)

-- a group is a row, or as long as it is said
group_is_row : (dump : HexDump) → 0 < dump.per_row → (dump.group == 0) ≡ true → bytes_per_group dump ≡ dump.per_row
group_is_row dump some is = rw is (per_row_is dump some)

group_is : (dump : HexDump) → (dump.group == 0) ≡ false → bytes_per_group dump ≡ dump.group
group_is dump is = rw is refl

width_grows : (group n more : ℕ) → 0 < group → n ≤ more → digits_width group n + 2 * (more - n) ≤ digits_width group more
width_grows group n more some within =
    let ordered : (n - 1) / group ≤ (more - 1) / group = le-div ((n - 1) / group) (more - 1) group some (omega (arith, div-mul-le_self (n - 1) group)) in
    omega (arith, ordered)

-- in a group that is a row there is no space
width_of_row : (group n : ℕ) → 0 < n → n ≤ group → digits_width group n ≡ 2 * n
width_of_row group n some within = omega (arith, div-eq_of_lt {n = n - 1} {m = group} (omega arith))

same_row_width : (asked : Bool) (width : ℕ) → (if asked then width - width else 0) ≡ 0
same_row_width true width = omega arith
same_row_width false width = refl

module _ (dump : HexDump) where
  -- the dump with rows of so many bytes
  abbrev narrow : ℕ → HexDump
  narrow n = record dump { per_row = n }

  row_is : (n : ℕ) → 0 < n → row_width (narrow n) ≡ digits_width (bytes_per_group (narrow n)) n
  row_is n some = ap (digits_width (bytes_per_group (narrow n))) (per_row_is (narrow n) some)

  -- a longer row has wider digits
  row_grows : (b : Bool) → (dump.group == 0) ≡ b → (m n : ℕ) → 0 < m → m ≤ n → row_width (narrow m) ≤ row_width (narrow n)
  row_grows true is m n some within =
      omega (
        arith,
        row_is m some,
        row_is n (omega arith),
        ap (λ g. digits_width g m) (group_is_row (narrow m) some is),
        ap (λ g. digits_width g n) (group_is_row (narrow n) (omega arith) is),
        width_of_row m m some (omega arith),
        width_of_row n n (omega arith) (omega arith),
      )
  row_grows false is m n some within =
      omega (
        arith,
        row_is m some,
        row_is n (omega arith),
        ap (λ g. digits_width g m) (group_is (narrow m) is),
        ap (λ g. digits_width g n) (group_is (narrow n) is),
        width_grows dump.group m n (omega (arith, group_is (narrow m) is, bytes_per_group-some (narrow m))) within,
      )

  -- how many spaces fewer there are, where a group is a row
  pub left_out_of_rows : (n twice : ℕ) → dump.ascii ≡ true → (dump.group == 0) ≡ true → 0 < n → n ≤ dump.per_row
      → twice ≡ min ((dump.per_row - n) * 2) (2 ^ 64 - 1) → twice ≡ reported (left_out dump n)
  left_out_of_rows n twice ascii is some within counts =
      rw ascii (
      omega (
        arith,
        counts,
        row_is n some,
        row_is dump.per_row (omega arith),
        ap (λ g. digits_width g n) (group_is_row (narrow n) some is),
        ap (λ g. digits_width g dump.per_row) (group_is_row dump (omega arith) is),
        width_of_row n n some (omega arith),
        width_of_row dump.per_row dump.per_row (omega arith) (omega arith),
      )
      )

  module _ (bytes : List ℕ) (some : 0 < length bytes) where
    -- the digits of bytes that fit into a row
    same_digits : (b : Bool) → (dump.group == 0) ≡ b → (m n : ℕ) → length bytes ≤ m → length bytes ≤ n
        → digits_column (bytes_per_group (narrow m)) bytes ≡ digits_column (bytes_per_group (narrow n)) bytes
    same_digits true is m n within_m within_n =
        ap (λ g. digits_column g bytes) (group_is_row (narrow m) (omega arith) is)
        ∙ ap (join_by (flat_map byte_digits) (codes " ")) (one_chunk m bytes some within_m ∙ sym (one_chunk n bytes some within_n))
        ∙ sym (ap (λ g. digits_column g bytes) (group_is_row (narrow n) (omega arith) is))
    same_digits false is m n within_m within_n =
        ap (λ g. digits_column g bytes) (group_is (narrow m) is ∙ sym (group_is (narrow n) is))

    abbrev width : ℕ → ℕ
    width n = digits_width (bytes_per_group (narrow n)) (length bytes)

    same_width : (b : Bool) → (dump.group == 0) ≡ b → (m n : ℕ) → length bytes ≤ m → length bytes ≤ n → width m ≡ width n
    same_width true is m n within_m within_n =
        ap (λ g. digits_width g (length bytes)) (group_is_row (narrow m) (omega arith) is) ∙ width_of_row m (length bytes) some within_m
        ∙ sym (ap (λ g. digits_width g (length bytes)) (group_is_row (narrow n) (omega arith) is) ∙ width_of_row n (length bytes) some within_n)
    same_width false is m n within_m within_n =
        ap (λ g. digits_width g (length bytes)) (group_is (narrow m) is ∙ sym (group_is (narrow n) is))

    has_width : (n : ℕ) → length bytes ≤ n → width n + 2 * (n - length bytes) ≤ row_width (narrow n)
    has_width n within =
        omega (arith, row_is n (omega arith), width_grows (bytes_per_group (narrow n)) (length bytes) n (bytes_per_group-some (narrow n)) within)

    -- the text of a row of so many bytes, and the line feed
    abbrev ending : Bool → ℕ → List ℕ
    ending asked n = (if asked then replicate (row_width (narrow n) - width n) space ++ (codes "  " ++ map shown_byte bytes) else []) ++ codes "\n"

    length-ending : (n : ℕ) → length (ending true n) ≡ (row_width (narrow n) - width n) + (length bytes + 3)
    length-ending n =
        let spaces = replicate (row_width (narrow n) - width n) space in
        let shown = codes "  " ++ map shown_byte bytes in
        omega (
          arith,
          length-append (spaces ++ shown) (codes "\n"),
          length-append spaces shown,
          length-append (codes "  ") (map shown_byte bytes),
          length-replicate (row_width (narrow n) - width n) space,
          length-map bytes shown_byte,
        )

    same_ending : (asked : Bool) (room m n : ℕ) → room + length bytes ≤ m → room + length bytes ≤ n → take room (ending asked m) ≡ take room (ending asked n)
    same_ending false room m n more_m more_n = refl
    same_ending true room m n more_m more_n =
        let shown = codes "  " ++ map shown_byte bytes in
        let spaces = λ (k : ℕ). replicate (row_width (narrow k) - width k) space in
        ap (take room) (append_assoc (spaces m) shown (codes "\n"))
        ∙ same_bytes room (row_width (narrow m) - width m) (row_width (narrow n) - width n) space (shown ++ codes "\n") (shown ++ codes "\n")
        (omega (arith, has_width m (omega arith))) (omega (arith, has_width n (omega arith)))
        ∙ sym (ap (take room) (append_assoc (spaces n) shown (codes "\n")))

    -- a row of all the bytes
    abbrev row : ℕ → List ℕ
    row n = offset_column dump.offset 0 ++ (digits_column (bytes_per_group (narrow n)) bytes ++ ending dump.ascii n)

    text_is : (n : ℕ) → length bytes ≤ n → dump_text (narrow n) bytes ≡ row n
    text_is n within =
        let rows_are = ap (λ k. chunks k bytes) (per_row_is (narrow n) (omega arith)) ∙ one_chunk n bytes some within in
        ap (rows_text (narrow n) 0) rows_are ∙ append-nil (row_text (narrow n) 0 bytes)

    same_row : (room m n : ℕ) → room + length bytes ≤ m → room + length bytes ≤ n → take room (row m) ≡ take room (row n)
    same_row room m n more_m more_n =
        let digits = λ (k : ℕ). digits_column (bytes_per_group (narrow k)) bytes in
        same_after room (offset_column dump.offset 0) (digits m ++ ending dump.ascii m) (digits n ++ ending dump.ascii n) (λ k within.
        ap (λ d. take k (d ++ ending dump.ascii m)) (same_digits (dump.group == 0) refl m n (omega arith) (omega arith))
        ∙ same_after k (digits n) (ending dump.ascii m) (ending dump.ascii n) (λ j less. same_ending dump.ascii j m n (omega arith) (omega arith)))

    length-row : (m n : ℕ) → length bytes ≤ m → length bytes ≤ n → length (row n) + length (ending dump.ascii m) ≡ length (row m) + length (ending dump.ascii n)
    length-row m n within_m within_n =
        let digits = λ (k : ℕ). digits_column (bytes_per_group (narrow k)) bytes in
        omega (
          arith,
          ap length (same_digits (dump.group == 0) refl m n within_m within_n),
          length-append (offset_column dump.offset 0) (digits m ++ ending dump.ascii m),
          length-append (offset_column dump.offset 0) (digits n ++ ending dump.ascii n),
          length-append (digits m) (ending dump.ascii m),
          length-append (digits n) (ending dump.ascii n),
        )

    longer_ending : (asked : Bool) (m n : ℕ) → length bytes ≤ m → m ≤ n
        → length (ending asked n) ≡ length (ending asked m) + (if asked then row_width (narrow n) - row_width (narrow m) else 0)
    longer_ending false m n within more = omega arith
    longer_ending true m n within more =
        omega (
          arith,
          length-ending m,
          length-ending n,
          same_width (dump.group == 0) refl m n within (omega arith),
          has_width m within,
          row_grows (dump.group == 0) refl m n (omega arith) more,
        )

    -- rows that are cut after the bytes and the buffer
    stands_dump : (room n rest : ℕ) → n ≡ min dump.per_row (room + length bytes) → rest ≡ reported (left_out dump n)
        → StandsFor room (dump_text (narrow n) bytes) rest (dump_text dump bytes)
    stands_dump room n rest is counts = elim (cases_lt dump.per_row (room + length bytes)) [
      | inl less ↦ as_wide (is ∙ min-eq_left (omega arith))
      | inr more ↦ narrower (is ∙ min-eq_right more) more
    ]
      where
        as_wide : n ≡ dump.per_row → StandsFor room (dump_text (narrow n) bytes) rest (dump_text dump bytes)
        as_wide same =
            let none : rest ≡ 0 = omega (arith, counts, ap (left_out dump) same, same_row_width dump.ascii (row_width dump)) in
            rw same (record { front = refl; longer = omega arith })

        narrower : n ≡ room + length bytes → room + length bytes ≤ dump.per_row → StandsFor room (dump_text (narrow n) bytes) rest (dump_text dump bytes)
        narrower cut more = record {
          front = ap (take room) (text_is dump.per_row (omega arith)) ∙ same_row room dump.per_row n more (omega arith) ∙ sym (ap (take room) (text_is n (omega arith)));
          longer = omega (
            arith,
            ap length (text_is dump.per_row (omega arith)),
            ap length (text_is n (omega arith)),
            length-row n dump.per_row (omega arith) (omega arith),
            longer_ending dump.ascii n dump.per_row (omega arith) (omega arith),
          );
        }

-- the same of options that are made from others
pub stands_narrow : (room rest : ℕ) (bytes : List ℕ) (whole options narrowed : HexDump) → 0 < length bytes → options ≡ whole
    → narrowed ≡ record options { per_row = min options.per_row (room + length bytes) } → rest ≡ reported (left_out options narrowed.per_row)
    → StandsFor room (dump_text narrowed bytes) rest (dump_text whole bytes)
stands_narrow room rest bytes whole options narrowed some is is_narrow counts =
    rw (is_narrow, ← is) (stands_dump options bytes some room (min options.per_row (room + length bytes)) rest refl
    (counts ∙ ap (λ (d : HexDump). reported (left_out options d.per_row)) is_narrow))
