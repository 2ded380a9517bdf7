-- Bytes of a debug leaf, in words and between quotes: each byte that the scanner passes there belongs to the leaf.
use Rattle.std.proofs.Common.{◌≡◌, refl, ap, sym, subst, ◌∙◌, ℕ, suc, ◌≤◌, ◌==◌, ◌&&◌, not, nat_le, Bool, true, false, cond, List, [], ◌∷◌, ◌++◌, append_assoc, take, drop, Some, None, eqb-true, arith, inl, inr, ◌||◌}
use Rattle.std.proofs.lemmas.Bool.{cases_Bool, false_from_ne_true, not-true}
use Rattle.std.specs.Prelude.{◌-◌}
use Rattle.std.proofs.lemmas.Bool.Decides.{nat_tests}
use Rattle.ufmt_core.specs.Bytes.{closing_parenthesis}
use Rattle.ufmt_grammar.specs.Leaves.{Place, outside, in_parentheses, is_plain_byte, begins_plain, is_character_closed, opens_quotes, between, after_backslash, is_outside, place_outside, place_after, begins_quote, begins_with, is_in_word, is_spaced, is_control, is_quote, is_debug_byte, has_name_bytes, ends_in_colon}
use Rattle.ufmt_grammar.specs.Reading.{choose, leaf_from, after_leaf, last_place}
use Rattle.ufmt_grammar.proofs.DebugLeaves.{kept_alone, plain_in_word, both}
use Rattle.ufmt_scan.specs.Private.Fronts.{Passes, StaysBetween, StopsWord}
use Rattle.ufmt_scan.specs.Private.MarkedBytes.{marked_len}
use Rattle.ufmt_grammar.specs.Bytes.{is_in, is_run_byte}
use Rattle.ufmt_grammar.specs.declared.bytes.ByteClass.TheVariants.{Quoted, Run}

has_name_bytes-append : (a b : List ℕ) → has_name_bytes (a ++ b) ≡ has_name_bytes a && has_name_bytes b
has_name_bytes-append [] b = refl
has_name_bytes-append (c ∷ a) b = elim (is_debug_byte c || c == 58) as (λ named. named && has_name_bytes (a ++ b) ≡ (named && has_name_bytes a) && has_name_bytes b) [ true ↦ has_name_bytes-append a b | false ↦ refl ]

pub and-true : (b : Bool) → b && true ≡ b
and-true true = refl
and-true false = refl

pub passes_none : (place : Place) (t : List ℕ) → Passes place t place t true
passes_none place t = record { bytes = []; whole = refl; front = refl; after = refl; last = refl; has = refl }

pub passes_then : {p q r : Place} {t u v : List ℕ} {a b : Bool} → Passes p t q u a → Passes q u r v b → Passes p t r v (a && b)
passes_then {r = r} {v = v} first second = record {
  bytes = first.bytes ++ second.bytes;
  whole = first.whole ∙ ap (λ x. first.bytes ++ x) second.whole ∙ sym (append_assoc first.bytes second.bytes v);
  front = first.front ∙ ap (λ x. first.bytes ++ x) second.front ∙ sym (append_assoc first.bytes second.bytes (leaf_from r v));
  after = first.after ∙ second.after;
  last = first.last ∙ second.last;
  has = has_name_bytes-append first.bytes second.bytes ∙ rw (first.has, second.has) refl;
}

-- a byte of the leaf is passed
pub pass_byte : (place : Place) (c : ℕ) (t : List ℕ) (next : Place) → place_after place c t ≡ Some next → Passes place (c ∷ t) next t (is_debug_byte c || c == 58)
pass_byte place c t next e =
    let kept = kept_alone place c t next e in
    record {
      bytes = c ∷ [];
      whole = refl;
      front = ap (λ o. choose o (λ n. c ∷ leaf_from n t) []) e;
      after = ap (λ o. choose o (λ n. after_leaf n t) (c ∷ t)) e;
      last = ap is_outside (ap (last_place place) (ap (λ o. choose o (λ n. c ∷ leaf_from n t) []) e)
          ∙ ap (λ o. choose o (λ n. last_place n (leaf_from next t)) place) kept);
      has = and-true (is_debug_byte c || c == 58);
    }

-- ---- words

-- such a byte is one of a debug word, and no backslash
pub record IsPlain (c : ℕ) : Type 0 where
  pub word : is_debug_byte c ≡ true
  pub no_backslash : (c == 92) ≡ false

pub plain_is : (c : ℕ) → is_plain_byte c ≡ true → IsPlain c
plain_is c h = let parts = both (is_debug_byte c) (not (c == 92)) h in record { word = parts.0; no_backslash = not-true (c == 92) parts.1 }

pub word_passes : (c : ℕ) (t : List ℕ) → is_plain_byte c ≡ true → Passes outside (c ∷ t) outside t true
word_passes c t h =
    let plain = plain_is c h in
    subst (Passes outside (c ∷ t) outside t) (rw plain.word refl)
    (pass_byte outside c t outside (rw (plain_in_word c t plain.word plain.no_backslash) refl))

-- ---- colons, backslashes and `()`

-- a byte of a word is no colon only if a name may have it, and a colon too
pub in_word_passes : (c : ℕ) (t : List ℕ) → is_in_word c t ≡ true → Passes outside (c ∷ t) outside t true
in_word_passes c t h = subst (Passes outside (c ∷ t) outside t) (named (c == 58) (is_debug_byte c) h) (pass_byte outside c t outside (rw h refl))
  where
    named : (ends word : Bool) → cond ends (not (is_spaced t)) (word && not (c == 92 && begins_quote t)) ≡ true → word || ends ≡ true
    named true true h = refl
    named true false h = refl
    named false true h = refl
    named false false h = absurd (cc)

-- ---- runs of bytes of words and colons

-- whether these bytes end in a colon, and a space is after them
run_spaced : List ℕ → ℕ → Bool
run_spaced t n = ends_in_colon (take n t) && is_spaced (drop n t)

-- a run is passed, but for a colon at its end before a space
record PassesRun (t : List ℕ) (n : ℕ) : Type 0 where
  whole : run_spaced t n ≡ false → Passes outside t outside (drop n t) true
  shorter : run_spaced t n ≡ true → (m : ℕ) × (n ≡ suc m) × (begins_with 58 (drop m t) ≡ true) × Passes outside t outside (drop m t) true
  stops : StopsWord (drop n t)

run_stops_word : (c : ℕ) → is_in Run c ≡ false → is_plain_byte c ≡ false
run_stops_word c h = false_from_ne_true (is_plain_byte c) (λ e. let run : is_run_byte c ≡ true = rw e refl in cc (run, h))

-- such a byte is passed, if it is no colon before a space
run_byte_passes : (c : ℕ) (t : List ℕ) → is_in Run c ≡ true → (c == 58) && is_spaced t ≡ false → Passes outside (c ∷ t) outside t true
run_byte_passes c t h unspaced = elim (cases_Bool (is_plain_byte c)) [
  | inl plain ↦ word_passes c t plain
  | inr other ↦ let colon = rw other at h in let none = rw colon at unspaced in in_word_passes c t (rw (colon, none) refl)
]

-- a run of one byte
one_runs : (c : ℕ) (t : List ℕ) → is_in Run c ≡ true → StopsWord t → PassesRun (c ∷ t) 1
unfolding run_spaced
one_runs c t h stops = record {
  whole = λ unspaced. run_byte_passes c t h unspaced;
  shorter = λ spaced. (0, refl, colon (c == 58) spaced, passes_none outside (c ∷ t));
  stops = stops;
}
  where
    colon : (ends : Bool) → ends && is_spaced t ≡ true → ends ≡ true
    colon true k = refl
    colon false k = absurd (cc)

-- and a longer one: no space comes after its first byte
more_runs : (c b : ℕ) (u : List ℕ) (k : ℕ) → is_in Run c ≡ true → is_in Run b ≡ true → PassesRun (b ∷ u) (suc k) → PassesRun (c ∷ b ∷ u) (suc (suc k))
unfolding run_spaced
more_runs c b u k first second more = record {
  whole = λ unspaced. passes_then passed (more.whole unspaced);
  shorter = λ spaced. let left = more.shorter spaced in (suc left.0, ap suc left.1, left.2, passes_then passed left.3);
  stops = more.stops;
}
  where
    no_space_next : is_run_byte b ≡ true → (b == 32) ≡ false
    no_space_next run = grind (arith, nat_tests)

    and-false : (x : Bool) → x && false ≡ false
    and-false true = refl
    and-false false = refl

    passed : Passes outside (c ∷ b ∷ u) outside (b ∷ u) true
    passed = run_byte_passes c (b ∷ u) first (rw (no_space_next second) (and-false (c == 58)))

run : (t : List ℕ) → PassesRun t (marked_len Run t)
unfolding run_spaced
run [] = record { whole = λ unspaced. passes_none outside []; shorter = λ spaced. absurd (cc); stops = tt }
run (c ∷ t) = elim (cases_Bool (is_in Run c)) [
  | inl e ↦ rw e (longer t e (run t))
  | inr e ↦ rw e (record { whole = λ unspaced. passes_none outside (c ∷ t); shorter = λ spaced. absurd (cc); stops = run_stops_word c e })
]
  where
    longer : (t : List ℕ) → is_in Run c ≡ true → PassesRun t (marked_len Run t) → PassesRun (c ∷ t) (suc (marked_len Run t))
    longer [] e more = one_runs c [] e tt
    longer (b ∷ u) e more = by (is_in Run b) refl more
      where
        by : (x : Bool) → is_in Run b ≡ x → PassesRun (b ∷ u) (cond x (suc (marked_len Run u)) 0)
            → PassesRun (c ∷ b ∷ u) (suc (cond x (suc (marked_len Run u)) 0))
        by true f more = more_runs c b u (marked_len Run u) e f more
        by false f more = one_runs c (b ∷ u) e more.stops

module _ (t front rest : List ℕ) (n : ℕ) (len : n ≡ marked_len Run t) (before : front ≡ take n t) (after : rest ≡ drop n t) where
  run_here : PassesRun t n
  run_here = subst (PassesRun t) (sym len) (run t)

  spaced_here : ends_in_colon front && is_spaced rest ≡ run_spaced t n
  unfolding run_spaced
  spaced_here = rw (before, after) refl

  pub run_passes : ends_in_colon front && is_spaced rest ≡ false → Passes outside t outside rest true
  run_passes unspaced = subst (λ u. Passes outside t outside u true) (sym after) (run_here.whole (sym spaced_here ∙ unspaced))

  pub run_stops : StopsWord rest
  run_stops = subst StopsWord (sym after) run_here.stops

  module _ (spaced : ends_in_colon front && is_spaced rest ≡ true) where
    pub run_is_some : 1 ≤ n
    run_is_some = omega (arith, (run_here.shorter (sym spaced_here ∙ spaced)).1)

    module _ (left : List ℕ) (is : left ≡ drop (n - 1) t) where
      pub shorter_run_passes : Passes outside t outside left true
      shorter_run_passes =
          let run = run_here.shorter (sym spaced_here ∙ spaced) in
          let count : n - 1 ≡ run.0 = omega (arith, run.1) in
          subst (λ u. Passes outside t outside u true) (sym (is ∙ ap (λ k. drop k t) count)) run.3

      pub shorter_run_stops : StopsWord left
      shorter_run_stops =
          let run = run_here.shorter (sym spaced_here ∙ spaced) in
          let count : n - 1 ≡ run.0 = omega (arith, run.1) in
          at_colon left (ap (begins_with 58) (is ∙ ap (λ k. drop k t) count) ∙ run.2)
        where
          at_colon : (u : List ℕ) → begins_with 58 u ≡ true → StopsWord u
          at_colon [] h = absurd (cc)
          at_colon (c ∷ u) h = subst (λ b. is_plain_byte b ≡ false) (sym (eqb-true c 58 h)) refl

-- whether such a byte is in a word
pub colon_in_word : (c : ℕ) (t : List ℕ) → c ≡ 58 → is_in_word c t ≡ not (is_spaced t)
colon_in_word c t is = rw is refl

pub backslash_in_word : (c : ℕ) (t : List ℕ) → c ≡ 92 → is_in_word c t ≡ not (begins_quote t)
backslash_in_word c t is = rw is refl

pub other_in_word : (c : ℕ) (t : List ℕ) → is_plain_byte c ≡ false → (c == 58) ≡ false → (c == 92) ≡ false → is_in_word c t ≡ false
other_in_word c t no_plain no_colon no_backslash =
    let no_word = false_from_ne_true (is_debug_byte c) (λ e. let plain : is_plain_byte c ≡ true = rw (e, no_backslash) refl in cc (plain, no_plain)) in
    rw (no_word, no_colon) refl

-- `()` is passed
pub unit_passes : (c : ℕ) (t u : List ℕ) → c ≡ 40 → t ≡ closing_parenthesis ∷ u → Passes outside (c ∷ t) outside u false
unit_passes c t u is closes = rw (is, closes)
    (passes_then (pass_byte outside 40 (41 ∷ u) in_parentheses refl) (pass_byte in_parentheses 41 u outside refl))

-- what is no byte of a word, no quote, no lifetime's apostrophe and no `()` stops the leaf
pub other_stops : (c : ℕ) (t : List ℕ) → is_in_word c t ≡ false → is_quote c ≡ false → (c == 40) && begins_with closing_parenthesis t ≡ false → place_outside c t ≡ None
other_stops c t no_word no_quote no_unit =
    let no_mark : (c == 34) ≡ false = grind (arith, nat_tests) in
    let no_apostrophe : (c == 39) ≡ false = grind (arith, nat_tests) in
    rw (no_word, no_mark, no_apostrophe, no_unit) refl

-- a byte that is none of these but perhaps a quote doesn't
pub stops_at : (c : ℕ) (t : List ℕ) → is_in_word c t ≡ false → opens_quotes c t ≡ false → (c == 39) ≡ false → (c == 40) ≡ false → place_outside c t ≡ None
stops_at c t no_word no_quote no_apostrophe no_parenthesis = rw (no_word, no_quote, no_apostrophe, no_parenthesis) refl

-- the apostrophe of a lifetime is passed
pub apostrophe_passes : (t : List ℕ) → is_character_closed t ≡ false → begins_plain t ≡ true → Passes outside (39 ∷ t) outside t false
apostrophe_passes t no_character plain = pass_byte outside 39 t outside (rw (no_character, plain) refl)

-- and any other isn't
pub apostrophe_stops : (t : List ℕ) → is_character_closed t ≡ false → begins_plain t ≡ false → place_outside 39 t ≡ None
apostrophe_stops t no_character no_plain = rw (no_character, no_plain) refl

-- an apostrophe that opens no quotes comes before no character
pub no_character : (c : ℕ) (t : List ℕ) → c ≡ 39 → opens_quotes c t ≡ false → is_character_closed t ≡ false
no_character c t is none = sym (ap (λ b. opens_quotes b t) is) ∙ none

-- ---- quotes

record StaysInside (c : ℕ) : Type 0 where
  no_control : is_control c ≡ false
  no_quote : is_quote c ≡ false
  no_backslash : (c == 92) ≡ false

marked_stays : (c : ℕ) → is_in Quoted c ≡ true → StaysInside c
marked_stays c h = grind (arith, nat_tests)

-- a byte that is no quote isn't this quote
no_such_quote : (q c : ℕ) → is_quote q ≡ true → is_quote c ≡ false → (c == q) ≡ false
no_such_quote q c quote none = false_from_ne_true (c == q) (λ e. let is = subst (λ b. is_quote b ≡ false) (eqb-true c q e) none in cc (quote, is))

stretch_run : (q : ℕ) (t : List ℕ) → is_quote q ≡ true → StaysBetween q t (drop (marked_len Quoted t) t)
stretch_run q [] quote = record { named = true; passes = passes_none (between q) [] }
stretch_run q (c ∷ t) quote = elim (cases_Bool (is_in Quoted c)) [
  | inl is ↦
      let stays = marked_stays c is in
      let step : place_after (between q) c t ≡ Some (between q) = rw (stays.no_control, no_such_quote q c quote stays.no_quote, stays.no_backslash) refl in
      rw is (record { named = _; passes = passes_then (pass_byte (between q) c t (between q) step) (stretch_run q t quote).passes })
  | inr is ↦ rw is (record { named = true; passes = passes_none (between q) (c ∷ t) })
]

pub stretches_are_passed : (q : ℕ) (t rest : List ℕ) (n : ℕ) → is_quote q ≡ true → n ≡ marked_len Quoted t → rest ≡ drop n t → StaysBetween q t rest
stretches_are_passed q t rest n quote len is = rw (is, len) (stretch_run q t quote)

-- a byte between quotes that isn't the closing one: itself, or a backslash and what it takes
module _ (q byte : ℕ) (other : (byte == q) ≡ false) where
  pub stays : (t : List ℕ) → (byte == 92) ≡ false → is_control byte ≡ false → StaysBetween q (byte ∷ t) t
  stays t no_backslash no_control = record {
    named = is_debug_byte byte || byte == 58;
    passes = pass_byte (between q) byte t (between q) (rw (no_control, other, no_backslash) refl);
  }

  module _ (backslash : byte ≡ 92) where
    escape_passes : (t : List ℕ) → Passes (between q) (byte ∷ t) (after_backslash q) t true
    escape_passes t = rw backslash (pass_byte (between q) 92 t (after_backslash q) (rw (subst (λ b. (b == q) ≡ false) backslash other) refl))

    pub escape_stays : (c : ℕ) (t : List ℕ) → not (is_control c || nat_le 128 c) ≡ true → StaysBetween q (byte ∷ c ∷ t) t
    escape_stays c t taken = record {
      named = is_debug_byte c || c == 58;
      passes = passes_then (escape_passes (c ∷ t)) (pass_byte (after_backslash q) c t (between q) (rw (not-true (is_control c || nat_le 128 c) taken) refl));
    }
