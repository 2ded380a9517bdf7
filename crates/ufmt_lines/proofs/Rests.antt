-- What a text is converted to from a place on is what its rest is converted to: no byte before that place is looked at.
use Rattle.std.proofs.Common.{◌≡◌, inl, inr, ◌∙◌, refl, ap, sym, ℕ, zero, suc, ◌+◌, ◌-◌, ◌<◌, ◌≤◌, ◌==◌, ◌&&◌, ◌||◌, not, Bool, true, false, cond, List, ◌++◌, Option, Some, None, drop, take, length, length-append, length-drop, get_or, arith}
use Rattle.std.proofs.lemmas.Bool.{cases_Bool}
use Rattle.std.specs.Prelude.{nat_le, nat_lt}
use Rattle.std.proofs.Math.Seq.{drop-append-add}
use Rattle.std.proofs.lemmas.Bool.Decides.{nat_tests}
use Rattle.std.proofs.lemmas.List.{get_or-append-add}
use Rattle.ufmt.specs.Bytes.{colon, opening_brace, opening_parenthesis, space}
use Rattle.ufmt.specs.Document.{Document}
use Rattle.ufmt.specs.Leaves.{is_name_byte}
use Rattle.ufmt_core.specs.declared.layout.Mode.{Mode}
use Rattle.ufmt_grammar.proofs.ReadingTurns.{read_takes}
use Rattle.ufmt.specs.Layout.{setting}
use Rattle.ufmt_grammar.specs.declared.class.Class.TheVariants.{Debug}
use Rattle.ufmt_values.proofs.FoundValues.{value_read}
use Rattle.ufmt_lines.specs.Values.{bytes_between, convert_bracket, convert_from, convert_value, could_be_struct, if_pretty, stays, value_text}
use Rattle.ufmt_values.specs.Values.{before_bracket, brace_start, is_after_name, is_in_struct, is_named, run_start, tuple_start, value_from, value_start}
use Rattle.ufmt_lines.specs.declared.run.conversion.Conversion.{Conversion}
use Rattle.ufmt_scan.specs.Fronts.{begins_with_field, has_one_leaf}
use Rattle.ufmt_scan.specs.Texts.{other_mode}

-- no run begins before `low`
pub run_stops : (text : List ℕ) (low end : ℕ) → end ≤ low → run_start text low end ≡ end
run_stops text low zero less = refl
run_stops text low (suc n) less =
    let past : nat_le low n ≡ false = grind (arith, nat_tests) in
    ap (λ b. cond (b && is_name_byte (get_or text n 0)) (run_start text low n) (suc n)) past

pub run_within : (text : List ℕ) (low end : ℕ) → run_start text low end ≤ end
run_within text low zero = omega arith
run_within text low (suc n) = grind (arith, run_within text low n)

-- a choice of two places that are moved
moved_choice : (b : Bool) (more x y : ℕ) → cond b (more + x) (more + y) ≡ more + cond b x y
moved_choice true more x y = refl
moved_choice false more x y = refl

-- whether a name and a space come before, if `b` says so of the place
abbrev pub name_before : Bool → List ℕ → ℕ → ℕ → Bool
name_before b text low end = b && (get_or text end 0 == space) && is_named text (run_start text low end) end

-- after a name there is a byte before the bracket
pub after_name_some : (text : List ℕ) (low bracket : ℕ) → is_after_name text low bracket ≡ true → low < bracket
after_name_some text low bracket is = grind (arith, nat_tests)

module _ (front rest : List ℕ) where
  -- a byte of the rest
  pub byte_moved : (i : ℕ) → get_or (front ++ rest) (length front + i) 0 ≡ get_or rest i 0
  byte_moved i = get_or-append-add front rest i 0

  -- a run of bytes of a name
  run_moved : (low end : ℕ) → run_start (front ++ rest) (length front + low) (length front + end) ≡ length front + run_start rest low end
  run_moved low zero = run_stops (front ++ rest) (length front + low) (length front + 0) (omega arith)
  run_moved low (suc n) =
      let next : length front + suc n ≡ suc (length front + n) = omega arith in
      let below : nat_le (length front + low) (length front + n) ≡ nat_le low n = grind (arith, nat_tests) in
      ap (run_start (front ++ rest) (length front + low)) next
      ∙ ap (λ b. cond (b && is_name_byte (get_or (front ++ rest) (length front + n) 0)) (run_start (front ++ rest) (length front + low) (length front + n)) (suc (length front + n))) below
      ∙ ap (λ c. cond (nat_le low n && is_name_byte c) (run_start (front ++ rest) (length front + low) (length front + n)) (suc (length front + n))) (byte_moved n)
      ∙ ap (λ s. cond (nat_le low n && is_name_byte (get_or rest n 0)) s (suc (length front + n))) (run_moved low n)
      ∙ ap (λ s. cond (nat_le low n && is_name_byte (get_or rest n 0)) (length front + run_start rest low n) s) (sym next)
      ∙ moved_choice (nat_le low n && is_name_byte (get_or rest n 0)) (length front) (run_start rest low n) (suc n)

  -- whether it is a name
  named_moved : (start end : ℕ) → is_named (front ++ rest) (length front + start) (length front + end) ≡ is_named rest start end
  named_moved start end =
      let moved : nat_lt (length front + start) (length front + end) ≡ nat_lt start end = grind (arith, nat_tests) in
      elim (cases_Bool (nat_lt start end)) [
        | inl is ↦
            let less : start < end = grind (arith, nat_tests) in
            let last : (length front + end) - 1 ≡ length front + (end - 1) = omega (arith, less) in
            rw (moved, last) (ap (λ c. nat_lt start end && not (c == colon)) (byte_moved (end - 1)))
        | inr is ↦ rw (moved, is) refl
      ]

  name_before_moved : (low end : ℕ) → name_before true (front ++ rest) (length front + low) (length front + end) ≡ name_before true rest low end
  name_before_moved low end =
      ap (λ c. (c == space) && is_named (front ++ rest) (run_start (front ++ rest) (length front + low) (length front + end)) (length front + end)) (byte_moved end)
      ∙ ap (λ s. (get_or rest end 0 == space) && is_named (front ++ rest) s (length front + end)) (run_moved low end)
      ∙ ap (λ b. (get_or rest end 0 == space) && b) (named_moved (run_start rest low end) end)

  -- whether a name and a space come before
  pub after_name_moved : (low bracket : ℕ) → is_after_name (front ++ rest) (length front + low) (length front + bracket) ≡ is_after_name rest low bracket
  after_name_moved low bracket =
      let moved : nat_lt (length front + low) (length front + bracket) ≡ nat_lt low bracket = grind (arith, nat_tests) in
      ap (λ b. name_before b (front ++ rest) (length front + low) ((length front + bracket) - 1)) moved
      ∙ (elim (cases_Bool (nat_lt low bracket)) as (λ _. name_before (nat_lt low bracket) (front ++ rest) (length front + low) ((length front + bracket) - 1) ≡ name_before (nat_lt low bracket) rest low (bracket - 1)) [
        | inl is ↦
            let less : low < bracket = grind (arith, nat_tests) in
            let last : (length front + bracket) - 1 ≡ length front + (bracket - 1) = omega (arith, less) in
            rw (is, last) (name_before_moved low (bracket - 1))
        | inr is ↦ rw is refl
      ])

  rest_moved : (i : ℕ) → drop ((length front + i) + 1) (front ++ rest) ≡ drop (i + 1) rest
  rest_moved i =
      let next : (length front + i) + 1 ≡ length front + (i + 1) = omega arith in
      ap (λ n. drop n (front ++ rest)) next ∙ drop-append-add front rest (i + 1)

  -- where a tuple begins
  tuple_moved : (low bracket : ℕ) → tuple_start (front ++ rest) (length front + low) (length front + bracket) ≡ length front + tuple_start rest low bracket
  tuple_moved low bracket =
      ap (λ s. cond (is_named (front ++ rest) s (length front + bracket)) s (length front + bracket)) (run_moved low bracket)
      ∙ ap (λ b. cond b (length front + run_start rest low bracket) (length front + bracket)) (named_moved (run_start rest low bracket) bracket)
      ∙ moved_choice (is_named rest (run_start rest low bracket) bracket) (length front) (run_start rest low bracket) bracket

  module _ (to : Mode) (low bracket : ℕ) where
    -- where a value with a brace begins
    brace_moved : brace_start to (front ++ rest) (length front + low) (length front + bracket) ≡ length front + brace_start to rest low bracket
    brace_moved =
        ap (λ b. cond (b && is_in_struct to (drop ((length front + bracket) + 1) (front ++ rest))) (run_start (front ++ rest) (length front + low) ((length front + bracket) - 1)) (length front + bracket)) (after_name_moved low bracket)
        ∙ ap (λ t. cond (is_after_name rest low bracket && is_in_struct to t) (run_start (front ++ rest) (length front + low) ((length front + bracket) - 1)) (length front + bracket)) (rest_moved bracket)
        ∙ named (is_in_struct to (drop (bracket + 1) rest))
      where
        named : (inside : Bool) → cond (is_after_name rest low bracket && inside) (run_start (front ++ rest) (length front + low) ((length front + bracket) - 1)) (length front + bracket)
            ≡ length front + cond (is_after_name rest low bracket && inside) (run_start rest low (bracket - 1)) bracket
        named inside = elim (cases_Bool (is_after_name rest low bracket)) [
          | inl is ↦
              let less = after_name_some rest low bracket is in
              let last : (length front + bracket) - 1 ≡ length front + (bracket - 1) = omega (arith, less) in
              rw (is, last, run_moved low (bracket - 1)) (moved_choice inside (length front) (run_start rest low (bracket - 1)) bracket)
          | inr is ↦ rw is refl
        ]

    -- a value of the rest begins at the same byte
    pub start_moved : value_start to (front ++ rest) (length front + low) (length front + bracket) ≡ length front + value_start to rest low bracket
    start_moved =
        let c = get_or rest bracket 0 in
        let tuple = tuple_start (front ++ rest) (length front + low) (length front + bracket) in
        ap (λ k. cond (k == opening_brace) (brace_start to (front ++ rest) (length front + low) (length front + bracket)) (cond (k == opening_parenthesis) tuple (length front + bracket))) (byte_moved bracket)
        ∙ ap (λ s. cond (c == opening_brace) s (cond (c == opening_parenthesis) tuple (length front + bracket))) brace_moved
        ∙ ap (λ s. cond (c == opening_brace) (length front + brace_start to rest low bracket) (cond (c == opening_parenthesis) s (length front + bracket))) (tuple_moved low bracket)
        ∙ ap (λ s. cond (c == opening_brace) (length front + brace_start to rest low bracket) s) (moved_choice (c == opening_parenthesis) (length front) (tuple_start rest low bracket) bracket)
        ∙ moved_choice (c == opening_brace) (length front) (brace_start to rest low bracket) (cond (c == opening_parenthesis) (tuple_start rest low bracket) bracket)

  -- whether a map could be a struct
  could_be_moved : (low bracket : ℕ) → could_be_struct (front ++ rest) (length front + low) (length front + bracket) ≡ could_be_struct rest low bracket
  could_be_moved low bracket =
      ap (λ c. (c == opening_brace) && is_after_name (front ++ rest) (length front + low) (length front + bracket) && begins_with_field Debug (drop ((length front + bracket) + 1) (front ++ rest))) (byte_moved bracket)
      ∙ ap (λ b. (get_or rest bracket 0 == opening_brace) && b && begins_with_field Debug (drop ((length front + bracket) + 1) (front ++ rest))) (after_name_moved low bracket)
      ∙ ap (λ t. (get_or rest bracket 0 == opening_brace) && is_after_name rest low bracket && begins_with_field Debug t) (rest_moved bracket)

  -- the bytes from one place to another
  between_moved : (start end : ℕ) → bytes_between (front ++ rest) (length front + start) (length front + end) ≡ bytes_between rest start end
  between_moved start end =
      let size : (length front + end) - (length front + start) ≡ end - start = omega arith in
      ap (λ n. take n (drop (length front + start) (front ++ rest))) size ∙ ap (take (end - start)) (drop-append-add front rest start)

  module _ (conversion : Conversion) where
    -- whether a value stays
    stays_moved : (low bracket : ℕ) (d : Document) (size : ℕ) → stays conversion (front ++ rest) (length front + low) (length front + bracket) d size ≡ stays conversion rest low bracket d size
    stays_moved low bracket d size = ap (λ b. if_pretty conversion.to (nat_le size conversion.longer_than || has_one_leaf d || b)) (could_be_moved low bracket)

    module _ (next after : ℕ → List ℕ) (same : (i : ℕ) → next (length front + i) ≡ after i) (at bracket start : ℕ) where
      -- what comes of a value with this end
      abbrev value_then : (ℕ → List ℕ) → List ℕ → ℕ → ℕ → ℕ → Document → ℕ → List ℕ
      value_then more text low place from d end =
          bytes_between text low from ++ (value_text (stays conversion text low place d (end - from)) conversion.to (bytes_between text from end) d ++ more end)

      -- what comes of a value
      ended_moved : (d : Document) (end : ℕ) → value_then next (front ++ rest) (length front + at) (length front + bracket) (length front + start) d (length front + end) ≡ value_then after rest at bracket start d end
      ended_moved d end =
          let size : (length front + end) - (length front + start) ≡ end - start = omega arith in
          ap (λ t. t ++ (value_text (stays conversion (front ++ rest) (length front + at) (length front + bracket) d ((length front + end) - (length front + start))) conversion.to (bytes_between (front ++ rest) (length front + start) (length front + end)) d ++ next (length front + end))) (between_moved at start)
          ∙ ap (λ n. bytes_between rest at start ++ (value_text (stays conversion (front ++ rest) (length front + at) (length front + bracket) d n) conversion.to (bytes_between (front ++ rest) (length front + start) (length front + end)) d ++ next (length front + end))) size
          ∙ ap (λ b. bytes_between rest at start ++ (value_text b conversion.to (bytes_between (front ++ rest) (length front + start) (length front + end)) d ++ next (length front + end))) (stays_moved at bracket d (end - start))
          ∙ ap (λ t. bytes_between rest at start ++ (value_text (stays conversion rest at bracket d (end - start)) conversion.to t d ++ next (length front + end))) (between_moved start end)
          ∙ ap (λ t. bytes_between rest at start ++ (value_text (stays conversion rest at bracket d (end - start)) conversion.to (bytes_between rest start end) d ++ t)) (same end)

      -- what comes of a bracket
      value_moved : (o : Option (Document × List ℕ)) → ((x : Document × List ℕ) → o ≡ Some x → length x.1 ≤ length rest)
          → convert_value conversion next (front ++ rest) (length front + at) (length front + bracket) (length front + start) o ≡ convert_value conversion after rest at bracket start o
      value_moved None fewer =
          let end : (length front + bracket) + 1 ≡ length front + (bracket + 1) = omega arith in
          ap (λ e. bytes_between (front ++ rest) (length front + at) e ++ next e) end
          ∙ ap (λ t. t ++ next (length front + (bracket + 1))) (between_moved at (bracket + 1))
          ∙ ap (λ t. bytes_between rest at (bracket + 1) ++ t) (same (bracket + 1))
      value_moved (Some x) fewer =
          let parts = length-append front rest in
          let left = fewer x refl in
          let end : length (front ++ rest) - length x.1 ≡ length front + (length rest - length x.1) = omega (arith, parts, left) in
          ap (value_then next (front ++ rest) (length front + at) (length front + bracket) (length front + start) x.0) end
          ∙ ended_moved x.0 (length rest - length x.1)

    -- what is left of a value is no longer than the text
    value_left : (start : ℕ) (x : Document × List ℕ) → value_from conversion.to (drop start rest) ≡ Some x → length x.1 ≤ length rest
    value_left start x is =
        let fewer = (read_takes Debug (setting (other_mode conversion.to) 0) 255).takes (drop start rest) x.0 x.1 (value_read conversion.to (drop start rest) x.0 x.1 is) in
        let left = length-drop start rest in
        omega (arith, fewer, left)

    -- from a place in the rest on, the whole text is converted as the rest is
    pub rest_converted : (n at : ℕ) → convert_from conversion n (front ++ rest) (length front + at) ≡ convert_from conversion n rest at
    unfolding convert_from
    rest_converted zero at = drop-append-add front rest at
    rest_converted (suc n) at =
        let next = convert_from conversion n (front ++ rest) in
        let b = at + before_bracket (drop at rest) in
        let start = value_start conversion.to rest at b in
        let place : (length front + at) + before_bracket (drop at rest) ≡ length front + b = omega arith in
        let parts = length-append front rest in
        let less : nat_lt (length front + b) (length (front ++ rest)) ≡ nat_lt b (length rest) = grind (arith, nat_tests, parts) in
        ap (λ t. convert_bracket conversion next (front ++ rest) (length front + at) ((length front + at) + before_bracket t)) (drop-append-add front rest at)
        ∙ ap (convert_bracket conversion next (front ++ rest) (length front + at)) place
        ∙ ap (λ s. cond (nat_lt (length front + b) (length (front ++ rest))) (convert_value conversion next (front ++ rest) (length front + at) (length front + b) s (value_from conversion.to (drop s (front ++ rest)))) (drop (length front + at) (front ++ rest))) (start_moved conversion.to at b)
        ∙ ap (λ t. cond (nat_lt (length front + b) (length (front ++ rest))) (convert_value conversion next (front ++ rest) (length front + at) (length front + b) (length front + start) (value_from conversion.to t)) (drop (length front + at) (front ++ rest))) (drop-append-add front rest start)
        ∙ ap (λ t. cond t (convert_value conversion next (front ++ rest) (length front + at) (length front + b) (length front + start) (value_from conversion.to (drop start rest))) (drop (length front + at) (front ++ rest))) less
        ∙ ap (λ t. cond (nat_lt b (length rest)) t (drop (length front + at) (front ++ rest))) (value_moved next (convert_from conversion n rest) (rest_converted n) at b start (value_from conversion.to (drop start rest)) (value_left start))
        ∙ ap (λ t. cond (nat_lt b (length rest)) (convert_value conversion (convert_from conversion n rest) rest at b start (value_from conversion.to (drop start rest))) t) (drop-append-add front rest at)
