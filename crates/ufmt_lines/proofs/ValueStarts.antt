-- Where a value begins, by the bytes before its bracket, and that what is before a byte of no name doesn't count.
use Rattle.std.proofs.Common.{◌≡◌, inl, inr, ◌∙◌, refl, ap, sym, ℕ, zero, suc, ◌+◌, ◌-◌, ◌<◌, ◌≤◌, ◌==◌, ◌&&◌, not, Bool, true, false, cond, List, [], ◌∷◌, ◌++◌, drop, length, length-append, get_or, arith}
use Rattle.std.proofs.Math.Seq.{drop-append-add, get_or-append_seam}
use Rattle.std.proofs.lemmas.Bool.Decides.{nat_tests}
use Rattle.std.proofs.lemmas.Bool.{cases_Bool}
use Rattle.std.proofs.lemmas.List.{get_or_append_left}
use Rattle.std.specs.Prelude.{nat_le, nat_lt}
use Rattle.ufmt.specs.Bytes.{colon, opening_brace, opening_parenthesis, space}
use Rattle.ufmt.specs.Leaves.{is_name_byte}
use Rattle.ufmt_core.specs.declared.layout.Mode.{Mode}
use Rattle.ufmt_grammar.specs.declared.class.Class.TheVariants.{Debug}
use Rattle.ufmt_lines.proofs.Rests.{after_name_moved, byte_moved, after_name_some, run_within, start_moved}
use Rattle.ufmt_lines.specs.Values.{could_be_struct}
use Rattle.ufmt_values.specs.Values.{brace_start, is_after_name, is_in_struct, is_named, run_start, tuple_start, value_start}
use Rattle.ufmt_scan.specs.Fronts.{begins_with_field}

-- ---- what follows the bracket doesn't count

-- where a run begins
run_before : (z u : List ℕ) (low end : ℕ) → end ≤ length z → run_start (z ++ u) low end ≡ run_start z low end
run_before z u low zero within = refl
run_before z u low (suc n) within =
    ap (λ c. cond (nat_le low n && is_name_byte c) (run_start (z ++ u) low n) (suc n)) (get_or_append_left z u 0 n (omega (arith, within)))
    ∙ ap (λ s. cond (nat_le low n && is_name_byte (get_or z n 0)) s (suc n)) (run_before z u low n (omega (arith, within)))

-- whether it is a name
named_before : (z u : List ℕ) (start end : ℕ) → end ≤ length z → is_named (z ++ u) start end ≡ is_named z start end
named_before z u start end within = elim (cases_Bool (nat_lt start end)) [
  | inl is ↦
      let less : start < end = grind (arith, nat_tests) in
      ap (λ c. nat_lt start end && not (c == colon)) (get_or_append_left z u 0 (end - 1) (omega (arith, less, within)))
  | inr is ↦ rw is refl
]

-- whether a name and a space come before
after_before : (z u : List ℕ) (low bracket : ℕ) → bracket ≤ length z → is_after_name (z ++ u) low bracket ≡ is_after_name z low bracket
after_before z u low bracket within = elim (cases_Bool (nat_lt low bracket)) [
  | inl is ↦
      let less : low < bracket = grind (arith, nat_tests) in
      let end = bracket - 1 in
      ap (λ c. nat_lt low bracket && (c == space) && is_named (z ++ u) (run_start (z ++ u) low end) end) (get_or_append_left z u 0 end (omega (arith, less, within)))
      ∙ ap (λ s. nat_lt low bracket && (get_or z end 0 == space) && is_named (z ++ u) s end) (run_before z u low end (omega (arith, within)))
      ∙ ap (λ b. nat_lt low bracket && (get_or z end 0 == space) && b) (named_before z u (run_start z low end) end (omega (arith, within)))
  | inr is ↦ rw is refl
]

-- where a value with this bracket begins after these bytes, if `inside` says whether those of a struct follow
abbrev pub start_after : ℕ → List ℕ → Bool → ℕ
start_after k z inside =
    cond (k == opening_brace) (cond (is_after_name z 0 (length z) && inside) (run_start z 0 (length z - 1)) (length z))
    (cond (k == opening_parenthesis) (tuple_start z 0 (length z)) (length z))

-- what begins there, if these bytes follow the bracket
abbrev pub from_bracket : Mode → List ℕ → ℕ → List ℕ → List ℕ
from_bracket to z k r = drop (start_after k z (is_in_struct to r)) z ++ k ∷ r

-- where the definition says that a value begins
pub start_is : (to : Mode) (z : List ℕ) (k : ℕ) (r : List ℕ) → value_start to (z ++ k ∷ r) 0 (length z) ≡ start_after k z (is_in_struct to r)
start_is to z k r =
    let n = length z in
    let text = z ++ k ∷ r in
    ap (λ c. cond (c == opening_brace) (brace_start to text 0 n) (cond (c == opening_parenthesis) (tuple_start text 0 n) n)) (get_or-append_seam z k r 0)
    ∙ ap (λ b. cond (k == opening_brace) (cond (b && is_in_struct to (drop (n + 1) text)) (run_start text 0 (n - 1)) n) (cond (k == opening_parenthesis) (tuple_start text 0 n) n)) (after_before z (k ∷ r) 0 n (omega arith))
    ∙ ap (λ t. cond (k == opening_brace) (cond (is_after_name z 0 n && is_in_struct to t) (run_start text 0 (n - 1)) n) (cond (k == opening_parenthesis) (tuple_start text 0 n) n)) (drop-append-add z (k ∷ r) 1)
    ∙ ap (λ s. cond (k == opening_brace) (cond (is_after_name z 0 n && is_in_struct to r) s n) (cond (k == opening_parenthesis) (tuple_start text 0 n) n)) (run_before z (k ∷ r) 0 (n - 1) (omega arith))
    ∙ ap (λ s. cond (k == opening_brace) (cond (is_after_name z 0 n && is_in_struct to r) (run_start z 0 (n - 1)) n) (cond (k == opening_parenthesis) (cond (is_named text s n) s n) n)) (run_before z (k ∷ r) 0 n (omega arith))
    ∙ ap (λ b. cond (k == opening_brace) (cond (is_after_name z 0 n && is_in_struct to r) (run_start z 0 (n - 1)) n) (cond (k == opening_parenthesis) (cond b (run_start z 0 n) n) n)) (named_before z (k ∷ r) (run_start z 0 n) n (omega arith))

-- it begins at the bracket or before it
pub start_within : (k : ℕ) (z : List ℕ) (inside : Bool) → start_after k z inside ≤ length z
start_within k z inside = grind (arith, run_within z 0 (length z), run_within z 0 (length z - 1))

-- what follows the bracket counts only if it is a brace after a name
pub start_same : (k : ℕ) (z : List ℕ) (i j : Bool) → ((k == opening_brace) ≡ true → is_after_name z 0 (length z) ≡ true → i ≡ j) → start_after k z i ≡ start_after k z j
start_same k z i j same = elim (cases_Bool (k == opening_brace)) [
  | inl brace ↦ elim (cases_Bool (is_after_name z 0 (length z))) [
    | inl named ↦ ap (start_after k z) (same brace named)
    | inr named ↦ rw named refl
  ]
  | inr brace ↦ rw brace refl
]

-- whether it could be a struct, by what follows the bracket
pub could_be_is : (z : List ℕ) (k : ℕ) (r : List ℕ) → could_be_struct (z ++ k ∷ r) 0 (length z) ≡ ((k == opening_brace) && is_after_name z 0 (length z) && begins_with_field Debug r)
could_be_is z k r =
    let n = length z in
    let text = z ++ k ∷ r in
    ap (λ c. (c == opening_brace) && is_after_name text 0 n && begins_with_field Debug (drop (n + 1) text)) (get_or-append_seam z k r 0)
    ∙ ap (λ b. (k == opening_brace) && b && begins_with_field Debug (drop (n + 1) text)) (after_before z (k ∷ r) 0 n (omega arith))
    ∙ ap (λ t. (k == opening_brace) && is_after_name z 0 n && begins_with_field Debug t) (drop-append-add z (k ∷ r) 1)

-- ---- what is before a byte of no name doesn't count

-- no name's byte, and no space
pub record Apart (c : ℕ) : Type 0 where
  pub no_name : is_name_byte c ≡ false
  pub no_space : (c == space) ≡ false

module _ (text : List ℕ) (l : ℕ) (no_name : is_name_byte (get_or text l 0) ≡ false) where
  -- a run doesn't go past such a byte
  run_low : (end : ℕ) → suc l ≤ end → run_start text 0 end ≡ run_start text (suc l) end
  run_low zero less = absurd (omega (arith, less))
  run_low (suc n) less =
      let low : nat_le 0 n ≡ true = grind (arith, nat_tests) in
      elim (cases_Bool (nat_le (suc l) n)) [
        | inl is ↦ rw (low, is) (ap (λ s. cond (is_name_byte (get_or text n 0)) s (suc n)) (run_low n (grind (arith, nat_tests))))
        | inr is ↦
            let more : n ≤ l = grind (arith, nat_tests) in
            let same : n ≡ l = omega (arith, more, less) in
            let other : is_name_byte (get_or text n 0) ≡ false = ap (λ i. is_name_byte (get_or text i 0)) same ∙ no_name in
            rw (low, is, other) refl
      ]

  module _ (bracket : ℕ) (past : suc l ≤ bracket) where
    -- so a name before the bracket begins after it
    after_low : (bracket ≡ suc l → (get_or text l 0 == space) ≡ false) → is_after_name text 0 bracket ≡ is_after_name text (suc l) bracket
    after_low spaced =
        let some : nat_lt 0 bracket ≡ true = grind (arith, nat_tests) in
        elim (cases_Bool (nat_lt (suc l) bracket)) [
          | inl is ↦
              let less : suc l < bracket = grind (arith, nat_tests) in
              rw (some, is) (ap (λ s. (get_or text (bracket - 1) 0 == space) && is_named text s (bracket - 1)) (run_low (bracket - 1) (omega (arith, less))))
          | inr is ↦
              let more : bracket ≤ suc l = grind (arith, nat_tests) in
              let same : bracket - 1 ≡ l = omega (arith, more, past) in
              let other : (get_or text (bracket - 1) 0 == space) ≡ false = ap (λ i. get_or text i 0 == space) same ∙ spaced (omega (arith, more, past)) in
              rw (some, is, other) refl
        ]

    -- and so does a value
    start_low : (to : Mode) → ((get_or text bracket 0 == opening_brace) ≡ true → bracket ≡ suc l → (get_or text l 0 == space) ≡ false)
        → value_start to text 0 bracket ≡ value_start to text (suc l) bracket
    start_low to spaced =
        brace (get_or text bracket 0 == opening_brace) spaced
        ∙ ap (λ s. cond (get_or text bracket 0 == opening_brace) (brace_start to text (suc l) bracket) (cond (get_or text bracket 0 == opening_parenthesis) (cond (is_named text s bracket) s bracket) bracket)) (run_low bracket past)
      where
        named : (inside : Bool) → cond (is_after_name text (suc l) bracket && inside) (run_start text 0 (bracket - 1)) bracket
            ≡ cond (is_after_name text (suc l) bracket && inside) (run_start text (suc l) (bracket - 1)) bracket
        named inside = elim (cases_Bool (is_after_name text (suc l) bracket)) [
          | inl is ↦
              let less = after_name_some text (suc l) bracket is in
              ap (λ s. cond (is_after_name text (suc l) bracket && inside) s bracket) (run_low (bracket - 1) (omega (arith, less)))
          | inr is ↦ rw is refl
        ]

        brace : (b : Bool) → (b ≡ true → bracket ≡ suc l → (get_or text l 0 == space) ≡ false)
            → cond b (brace_start to text 0 bracket) (cond (get_or text bracket 0 == opening_parenthesis) (tuple_start text 0 bracket) bracket)
            ≡ cond b (brace_start to text (suc l) bracket) (cond (get_or text bracket 0 == opening_parenthesis) (tuple_start text 0 bracket) bracket)
        brace true apart =
            ap (λ b. cond (b && is_in_struct to (drop (bracket + 1) text)) (run_start text 0 (bracket - 1)) bracket) (after_low (apart refl))
            ∙ named (is_in_struct to (drop (bracket + 1) text))
        brace false apart = refl

-- after such a byte, a value begins where it would without what is before; after a space too, but for a brace right after it
pub start_later : (to : Mode) (y : List ℕ) (c : ℕ) (rest : List ℕ) (bracket : ℕ) → is_name_byte c ≡ false
    → ((get_or rest bracket 0 == opening_brace) ≡ true → bracket ≡ 0 → (c == space) ≡ false)
    → value_start to ((y ++ c ∷ []) ++ rest) 0 (length (y ++ c ∷ []) + bracket) ≡ length (y ++ c ∷ []) + value_start to rest 0 bracket
start_later to y c rest bracket no_name spaced =
    let front = y ++ c ∷ [] in
    let size : length front ≡ suc (length y) = length-append y (c ∷ []) ∙ omega arith in
    let last : get_or (front ++ rest) (length y) 0 ≡ c =
    get_or_append_left front rest 0 (length y) (omega (arith, size)) ∙ get_or-append_seam y c [] 0 in
    let low : suc (length y) ≡ length front + 0 = omega (arith, size) in
    let here : get_or (front ++ rest) (length front + bracket) 0 ≡ get_or rest bracket 0 = byte_moved front rest bracket in
    start_low (front ++ rest) (length y) (ap is_name_byte last ∙ no_name) (length front + bracket) (omega (arith, size)) to
    (λ brace at. ap (λ b. b == space) last ∙ spaced (ap (λ b. b == opening_brace) (sym here) ∙ brace) (omega (arith, size, at)))
    ∙ ap (λ n. value_start to (front ++ rest) n (length front + bracket)) low
    ∙ start_moved front rest to 0 bracket

-- and whether it could be a struct is as without that
pub could_be_later : (y : List ℕ) (c : ℕ) (z : List ℕ) (k : ℕ) (r : List ℕ) → is_name_byte c ≡ false → ((k == opening_brace) ≡ true → length z ≡ 0 → (c == space) ≡ false)
    → could_be_struct (((y ++ c ∷ []) ++ z) ++ k ∷ r) 0 (length ((y ++ c ∷ []) ++ z)) ≡ could_be_struct (z ++ k ∷ r) 0 (length z)
could_be_later y c z k r no_name spaced = could_be_is ((y ++ c ∷ []) ++ z) k r ∙ same ∙ sym (could_be_is z k r)
  where
    front : List ℕ
    front = y ++ c ∷ []

    size : length (y ++ c ∷ []) ≡ suc (length y)
    size = length-append y (c ∷ []) ∙ omega arith

    last : get_or ((y ++ c ∷ []) ++ z) (length y) 0 ≡ c
    last = let long = size in get_or_append_left (y ++ c ∷ []) z 0 (length y) (omega (arith, long)) ∙ get_or-append_seam y c [] 0

    named : (length z ≡ 0 → (c == space) ≡ false) → is_after_name ((y ++ c ∷ []) ++ z) 0 (length ((y ++ c ∷ []) ++ z)) ≡ is_after_name z 0 (length z)
    named apart =
        let long = size in
        let low : suc (length y) ≡ length (y ++ c ∷ []) + 0 = omega (arith, long) in
        ap (is_after_name ((y ++ c ∷ []) ++ z) 0) (length-append (y ++ c ∷ []) z)
        ∙ after_low ((y ++ c ∷ []) ++ z) (length y) (ap is_name_byte last ∙ no_name) (length (y ++ c ∷ []) + length z) (omega (arith, long))
        (λ at. ap (λ b. b == space) last ∙ apart (omega (arith, long, at)))
        ∙ ap (λ n. is_after_name ((y ++ c ∷ []) ++ z) n (length (y ++ c ∷ []) + length z)) low
        ∙ after_name_moved (y ++ c ∷ []) z 0 (length z)

    same : ((k == opening_brace) && is_after_name ((y ++ c ∷ []) ++ z) 0 (length ((y ++ c ∷ []) ++ z)) && begins_with_field Debug r) ≡ ((k == opening_brace) && is_after_name z 0 (length z) && begins_with_field Debug r)
    same = elim (cases_Bool (k == opening_brace)) [
      | inl is ↦ ap (λ b. (k == opening_brace) && b && begins_with_field Debug r) (named (spaced is))
      | inr is ↦ rw is refl
    ]
