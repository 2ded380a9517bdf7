-- A text ends with at most one name: the run of bytes of a name before its colon and space.
use Rattle.std.proofs.Common.{◌≡◌, ◌≢◌, inl, inr, ℕ, ◌+◌, ◌-◌, ◌<◌, ◌≤◌, ◌==◌, Bool, true, false, nat_eq, List, [], ◌∷◌, ◌++◌, None, Some, length, drop, take, min, get_or, codes, IsUtf8, Result, Ok, Err, MatchResult, Bor, option_map, refl, sym, ap, subst, ◌∙◌, arith}
use Rattle.std.proofs.lemmas.Bool.{cases_order, eqb-true}
use Rattle.std.proofs.lemmas.Grind.{get_or_default_zero}
use Rattle.std.proofs.lemmas.List.{append_cancel_right, length-append, length-drop, length-take-le, get_or-append_right, get_or_append_left, get_or-drop, get_or-take, take-append-drop, take_all, take_min, take_more}
use Rattle.std.specs.Cmp.Lexicographic.{other_text, pointwise, same_text}
use Rattle.std.specs.Result.{result_ok}
use Rattle.std.proofs.Math.Seq.{drop-append_seam, get_or-append_seam}
use Rattle.ufmt_parse.specs.NamesBefore.{EndsWithName, IsNameBefore, is_identifier_byte}

-- the longest run of bytes of a name that ends the text begins here
pub record IsNameStart (text : List ℕ) (start : ℕ) : Type 0 where
  pub within : start ≤ length text
  pub run : (k : ℕ) → start ≤ k → k < length text → is_identifier_byte (get_or text k 0) ≡ true
  pub longest : 0 < start → is_identifier_byte (get_or text (start - 1) 0) ≡ false

-- a list that isn't empty ends with its last item
ends_in : (text : List ℕ) → 0 < length text → text ≡ take (length text - 1) text ++ get_or text (length text - 1) 0 ∷ []
ends_in text some =
    sym (take_all (length text - 1 + 1) text (omega (arith, some))) ∙ take_more text (length text - 1) 0 (omega (arith, some))

module _ (front : List ℕ) (start : ℕ) (begins : IsNameStart front start) where
  -- a name that ends the text is this run
  pub only_name : (name : List ℕ) → EndsWithName (front ++ codes ": ") name → name ≡ drop start front
  only_name name ends = elim (cases_order (length ends.front) start) [
    | inl equal ↦ sym (ap (drop start) same ∙ ap (λ n. drop n (ends.front ++ name)) (sym equal) ∙ drop-append_seam ends.front name)
    | inr (inl before) ↦
        let within = begins.within in
        let read : get_or front (start - 1) 0 ≡ get_or name (start - 1 - length ends.front) 0 =
        ap (λ t. get_or t (start - 1) 0) same ∙ get_or-append_right ends.front name (length ends.front) (start - 1) 0 refl (omega (arith, before)) in
        let named = ends.bytes (start - 1 - length ends.front) 0 (omega (arith, before, within, lengths)) in
        let other = begins.longest (omega (arith, before)) in
        absurd (cc)
    | inr (inr after) ↦
        let last = length ends.front - 1 in
        let read : get_or front last 0 ≡ get_or ends.front last 0 =
        ap (λ t. get_or t last 0) same ∙ get_or_append_left ends.front name 0 last (omega (arith, after)) in
        let named = begins.run last (omega (arith, after)) (omega (arith, after, lengths)) in
        let other = ends.longest (take last ends.front) (get_or ends.front last 0) (ends_in ends.front (omega (arith, after))) in
        absurd (cc)
  ]
    where
      same : front ≡ ends.front ++ name
      same = append_cancel_right front (ends.front ++ name) (codes ": ") ends.parts

      lengths : length front ≡ length ends.front + length name
      lengths = ap length same ∙ length-append ends.front name

  -- this run is a name, if it isn't empty and is UTF-8
  pub is_name : drop start front ≢ [] → IsUtf8 (drop start front) → EndsWithName (front ++ codes ": ") (drop start front)
  is_name some utf8 = record {
    front = take start front;
    parts = ap (λ t. t ++ codes ": ") (sym (take-append-drop start front));
    not_empty = some;
    bytes = λ k d within.
        let inside : k < length front - start = subst (λ n. k < n) (length-drop start front) within in
        rw (get_or-drop start front k d, get_or_default_zero front (start + k) d (omega (arith, inside)))
        (begins.run (start + k) (omega arith) (omega (arith, inside)));
    longest = λ others c is.
        let count : start ≡ length others + 1 = sym (length-take-le start front begins.within) ∙ ap length is ∙ length-append others (c ∷ []) in
        let last : start - 1 ≡ length others = omega (arith, count) in
        let read : get_or front (start - 1) 0 ≡ c =
        sym (get_or-take start front (start - 1) 0 (omega (arith, count))) ∙ ap (λ t. get_or t (start - 1) 0) is
        ∙ ap (λ n. get_or (others ++ c ∷ []) n 0) last ∙ get_or-append_seam others c [] 0 in
        sym (ap is_identifier_byte read) ∙ begins.longest (omega (arith, count));
    utf8 = utf8;
  }

-- ---- what the text before a place says of its name

-- whether the text ends with a colon and a space, as a test says it
abbrev pub Suffix : Bool → List ℕ → Type 0
Suffix b before = pointwise nat_eq (drop (length before - 2) before) (codes ": ") ≡ b

-- the text ends otherwise
pub no_suffix : (before : List ℕ) → Suffix false before → IsNameBefore before None
no_suffix before other name = (λ none. absurd (cc), λ ends. absurd (other_text _ _ (sym other) (ended ends)))
  where
    ended : EndsWithName before name → drop (length before - 2) before ≡ codes ": "
    ended ends =
        let start = ends.front ++ name in
        let lengths : length before ≡ length start + 2 = ap length ends.parts ∙ length-append start (codes ": ") in
        let there : length before - 2 ≡ length start = omega (arith, lengths) in
        ap (λ n. drop n before) there ∙ ap (drop (length start)) ends.parts ∙ drop-append_seam start (codes ": ")

pub after_suffix : (before front : List ℕ) → Suffix true before → front ≡ take (length before - 2) before → before ≡ front ++ codes ": "
after_suffix before front is front_is =
    sym (take-append-drop (length before - 2) before) ∙ ap (λ t. take (length before - 2) before ++ t) (same_text _ _ (sym is)) ∙ ap (λ t. t ++ codes ": ") (sym front_is)

module _ (front : List ℕ) (start : ℕ) (begins : IsNameStart front start) where
  pub no_name : drop start front ≡ [] → IsNameBefore (front ++ codes ": ") None
  no_name empty name = (λ none. absurd (cc), λ ends. absurd (ends.not_empty (only_name front start begins name ends ∙ empty)))

  -- the run as a text, if it is one
  pub text_name : {E : Type 0} → (IsFault : E → Type 0) (read : Result (Bor (List ℕ)) E) → drop start front ≢ []
      → MatchResult read (λ s. (s.now ≡ drop start front) × IsUtf8 (drop start front)) (λ e. ¬ (IsUtf8 (drop start front)) × IsFault e)
      → IsNameBefore (front ++ codes ": ") (option_map (λ name. name.now) (result_ok read))
  text_name IsFault (Ok s) some cases name = (
    λ is. subst (EndsWithName (front ++ codes ": ")) (sym cases.0 ∙ inner is) (is_name front start begins some cases.1),
    λ ends. ap Some (cases.0 ∙ sym (only_name front start begins name ends)),
  )
    where
      inner : Some s.now ≡ Some name → s.now ≡ name
      inner is = cc
  text_name IsFault (Err e) some cases name =
      (λ none. absurd (cc), λ ends. absurd (cases.0 (subst IsUtf8 (only_name front start begins name ends) ends.utf8)))

-- ---- what the code looks at

pub up_to : (text : List ℕ) (at end : ℕ) → end ≡ min at (length text) → take end text ≡ take at text
up_to text at end is = ap (λ n. take n text) is ∙ take_min at text

pub until_end : (text : List ℕ) (start : ℕ) → take (length text - start) (drop start text) ≡ drop start text
until_end text start = take_all (length text - start) (drop start text) (omega (arith, length-drop start text))

pub is_nil : (text : List ℕ) → (length text == 0) ≡ true → text ≡ []
is_nil [] none = refl
is_nil (b ∷ text) none = let zero_long : length (b ∷ text) ≡ 0 = eqb-true (length (b ∷ text)) 0 none in absurd (omega (arith, zero_long))

pub is_some_text : (text : List ℕ) → (length text == 0) ≡ false → text ≢ []
is_some_text text some nil = let other : true ≡ false = subst (λ t. (length t == 0) ≡ false) nil some in absurd (cc)
