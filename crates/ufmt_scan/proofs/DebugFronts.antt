-- The whole leaf at the front of a debug document: how it starts, and where it ends.
use Rattle.std.proofs.Common.{◌≡◌, inl, inr, refl, ap, sym, subst, ◌∙◌, ℕ, suc, ◌==◌, ◌&&◌, not, Bool, true, false, List, [], ◌∷◌, ◌++◌, append-nil, length, length-append, take, drop, codes, Option, Some, None, eqb-true, arith, ◌||◌}
use Rattle.std.proofs.lemmas.Bool.{cases_Bool, false_from_ne_true}
use Rattle.std.specs.Prelude.{◌≢◌, ◌-◌, ⊤}
use Rattle.std.specs.Str.{IsUtf8, is_utf8}
use Rattle.std.proofs.lemmas.Bool.Decides.{nat_tests}
use Rattle.std.proofs.lemmas.Str.{IsUtf8-from_is_utf8, is_utf8-from_IsUtf8}
use Rattle.std.proofs.Math.Seq.{take-append_seam}
use Rattle.ufmt_grammar.specs.Leaves.{Place, beginning, outside, after_quotes, in_word, in_address, after_address, is_plain_byte, is_name_byte, is_word_closed, is_address_closed, is_port, past, is_continuation, is_escape_byte, opens_quotes, between, is_outside, place_outside, place_after, begins_with, is_quote, is_debug_byte, has_name_bytes, ends_in_colon}
use Rattle.ufmt_grammar.specs.Reading.{choose, leaf_from, after_leaf, last_place, strip}
use Rattle.ufmt_core.specs.Document.{leaf}
use Rattle.ufmt_grammar.proofs.DebugLeaves.{at_beginning, each_quote, kept_alone, opens_by, both}
use Rattle.ufmt_grammar.proofs.NoStarts.{address_by_port, word_by_end}
use Rattle.ufmt_grammar.proofs.Parsing.{strip_found}
use Rattle.ufmt_grammar.specs.declared.class.Class.TheVariants.{Debug}
use Rattle.ufmt_grammar.specs.Reading.{is_whole}
use Rattle.ufmt_scan.specs.declared.front.Front.{Front}
use Rattle.ufmt_scan.specs.Private.Fronts.{EndsLeaf, IsSplit, Passes, begins_name, is_started}
use Rattle.ufmt_scan.specs.Private.MarkedBytes.{marked_len}
use Rattle.ufmt_grammar.specs.Bytes.{is_in}
use Rattle.ufmt_grammar.specs.declared.bytes.ByteClass.{ByteClass}
use Rattle.ufmt_grammar.specs.declared.bytes.ByteClass.TheVariants.{Continuation, Escape, Name, Word}
use Rattle.ufmt_scan.proofs.PassedBytes.{and-true, pass_byte, passes_none, passes_then}

-- ---- the whole leaf

-- a text in quotes is opened, continued and closed
pub opened : (q : ℕ) (t : List ℕ) → opens_quotes q t ≡ true → Passes outside (q ∷ t) (between q) t false
opened q t opens = elim (opens_by q t opens) [
  | inl mark ↦ rw mark (pass_byte outside 34 t (between 34) refl)
  | inr character ↦ rw character.0 (pass_byte outside 39 t (between 39) (rw character.1 refl))
]

module _ (q : ℕ) (quote : is_quote q ≡ true) where
  pub closed : (t : List ℕ) → Passes (between q) (q ∷ t) after_quotes t false
  closed t = each_quote (λ c. Passes (between c) (c ∷ t) after_quotes t false) (pass_byte (between 34) 34 t after_quotes refl) (pass_byte (between 39) 39 t after_quotes refl) q quote

-- numbers that differ are found to differ
pub differ : (a b : ℕ) → a ≢ b → (a == b) ≡ false
differ a b apart = false_from_ne_true (a == b) (λ e. apart (eqb-true a b e))

-- no byte of a leaf is at the front
abbrev pub NoneNext : List ℕ → Type 0
NoneNext [] = ⊤
NoneNext (c ∷ t) = place_outside c t ≡ None

none_left : (t : List ℕ) → NoneNext t → (leaf_from outside t ≡ []) × (after_leaf outside t ≡ t)
none_left [] h = (refl, refl)
none_left (c ∷ t) h = rw h (refl, refl)

-- the leaf ends where no byte of a leaf follows its last word
pub ends_leaf : (t r e : List ℕ) (named : Bool) → Passes beginning t outside r named → Passes outside r outside e true → NoneNext e → EndsLeaf t e named
ends_leaf t r e named first word stops =
    let none = none_left e stops in
    record { place = outside; passes = subst (Passes beginning t outside e) (and-true named) (passes_then first word); closed = refl; none = none.0; all = none.1 }

-- so it does before a byte of none
pub stops_leaf : (e : List ℕ) (c : ℕ) (u : List ℕ) → e ≡ c ∷ u → place_outside c u ≡ None → NoneNext e
stops_leaf e c u first none = subst NoneNext (sym first) none

-- after a word, a text in quotes is passed
pub quotes_next : {t r e u : List ℕ} {named : Bool} {place : Place} → Passes beginning t outside r named → Passes outside r outside e true → Passes outside e place u false
    → Passes beginning t place u false
quotes_next {t} {r} {e} {u} {named} {place} first word quotes = subst (Passes beginning t place u) (and-false (named && true)) (passes_then (passes_then first word) quotes)
  where
    and-false : (b : Bool) → b && false ≡ false
    and-false true = refl
    and-false false = refl

-- and so is a byte of a word
pub word_next : {t r e u : List ℕ} {named : Bool} → Passes beginning t outside r named → Passes outside r outside e true → Passes outside e outside u true
    → Passes beginning t outside u named
word_next {t} {r} {e} {u} {named} first word more =
    subst (Passes beginning t outside u) (and-true (named && true) ∙ and-true named) (passes_then (passes_then first word) more)

-- after a closing quote a colon ends the leaf
pub colon_ends : (t rest : List ℕ) → Passes beginning t after_quotes rest false → begins_with 58 rest ≡ true → EndsLeaf t rest false
colon_ends t [] passes begins = absurd (cc)
colon_ends t (c ∷ u) passes begins = record { place = after_quotes; passes = passes; closed = refl; none = rw begins refl; all = rw begins refl }

-- and without one it is as outside of quotes
pub no_colon_next : (t rest : List ℕ) (named : Bool) → Passes beginning t after_quotes rest named → begins_with 58 rest ≡ false → Passes beginning t outside rest named
no_colon_next t rest named passes begins = record {
  bytes = passes.bytes;
  whole = passes.whole;
  front = passes.front ∙ ap (λ u. passes.bytes ++ u) same.0;
  after = passes.after ∙ same.1;
  last = passes.last ∙ same.2;
  has = passes.has;
}
  where
    open_ends : (c : ℕ) (x : List ℕ) (o : Option Place) → is_outside (choose o (λ n. last_place n x) after_quotes) ≡ is_outside (choose o (λ n. last_place n x) outside)
    open_ends c x None = refl
    open_ends c x (Some n) = refl

    alike : (c : ℕ) (u : List ℕ) → (c == 58) ≡ false → (o : Option Place)
        → is_outside (last_place after_quotes (choose o (λ n. c ∷ leaf_from n u) [])) ≡ is_outside (last_place outside (choose o (λ n. c ∷ leaf_from n u) []))
    alike c u none None = refl
    alike c u none (Some n) =
        let x = leaf_from n u in
        let step : place_after after_quotes c x ≡ place_outside c x = rw none refl in
        ap (λ o. is_outside (choose o (λ m. last_place m x) after_quotes)) step ∙ open_ends c x (place_outside c x)

    same_from : (rest : List ℕ) → begins_with 58 rest ≡ false → (leaf_from after_quotes rest ≡ leaf_from outside rest) × (after_leaf after_quotes rest ≡ after_leaf outside rest)
        × (is_outside (last_place after_quotes (leaf_from after_quotes rest)) ≡ is_outside (last_place outside (leaf_from outside rest)))
    same_from [] none = (refl, refl, refl)
    same_from (c ∷ u) none =
        let step : place_after after_quotes c u ≡ place_outside c u = rw none refl in (
          ap (λ o. choose o (λ n. c ∷ leaf_from n u) []) step,
          ap (λ o. choose o (λ n. after_leaf n u) (c ∷ u)) step,
          ap (λ o. is_outside (last_place after_quotes (choose o (λ n. c ∷ leaf_from n u) []))) step ∙ alike c u none (place_outside c u),
        )

    same : (leaf_from after_quotes rest ≡ leaf_from outside rest) × (after_leaf after_quotes rest ≡ after_leaf outside rest)
        × (is_outside (last_place after_quotes (leaf_from after_quotes rest)) ≡ is_outside (last_place outside (leaf_from outside rest)))
    same = same_from rest begins

-- ---- the start of a leaf

-- a leaf that has none of these at its start is as outside of quotes
pub not_started : (t : List ℕ) → is_started t ≡ false → Passes beginning t outside t true
not_started t bare = record { bytes = []; whole = refl; front = (same t bare).0; after = (same t bare).1; last = (same t bare).2; has = refl }
  where
    none : (a b : Bool) → a || b ≡ false → (a ≡ false) × (b ≡ false)
    none true b h = absurd (cc)
    none false b h = (refl, h)

    step : (c : ℕ) (u : List ℕ) → is_started (c ∷ u) ≡ false → place_after beginning c u ≡ place_outside c u
    step c u h = let parts = none ((c == 40) && is_word_closed u) ((c == 91) && is_address_closed u) h in rw (parts.0, parts.1) refl

    ends : (c : ℕ) (u : List ℕ) (o : Option Place) → place_outside c u ≡ o
        → is_outside (last_place beginning (choose o (λ n. c ∷ leaf_from n u) [])) ≡ is_outside (last_place outside (choose o (λ n. c ∷ leaf_from n u) []))
    ends c u None e = refl
    ends c u (Some n) e =
        let kept = kept_alone outside c u n e in
        ap (λ o. is_outside (choose o (λ m. last_place m (leaf_from n u)) beginning)) (at_beginning c (leaf_from n u) n kept)
        ∙ sym (ap (λ o. is_outside (choose o (λ m. last_place m (leaf_from n u)) outside)) kept)

    same : (t : List ℕ) → is_started t ≡ false → (leaf_from beginning t ≡ leaf_from outside t) × (after_leaf beginning t ≡ after_leaf outside t)
        × (is_outside (last_place beginning (leaf_from beginning t)) ≡ is_outside (last_place outside (leaf_from outside t)))
    same [] h = (refl, refl, refl)
    same (c ∷ u) h =
        let is = step c u h in (
          ap (λ o. choose o (λ n. c ∷ leaf_from n u) []) is,
          ap (λ o. choose o (λ n. after_leaf n u) (c ∷ u)) is,
          ap (λ o. is_outside (last_place beginning (choose o (λ n. c ∷ leaf_from n u) []))) is ∙ ends c u (place_outside c u) refl,
        )

pub nothing_starts : (t : List ℕ) → length t ≡ 0 → Passes beginning t outside t true
nothing_starts [] h = not_started [] refl
nothing_starts (c ∷ t) h = absurd (omega (arith, h))

pub no_word_starts : (t u : List ℕ) (c : ℕ) → t ≡ c ∷ u → c ≡ 40 → is_word_closed u ≡ false → Passes beginning t outside t true
no_word_starts t u c first is none = not_started t (ap is_started first ∙ rw (is, none) refl)

pub no_address_starts : (t u : List ℕ) (c : ℕ) → t ≡ c ∷ u → c ≡ 91 → is_address_closed u ≡ false → Passes beginning t outside t true
no_address_starts t u c first is none = not_started t (ap is_started first ∙ rw (is, none) refl)

pub no_bracket_starts : (t u : List ℕ) (c : ℕ) → t ≡ c ∷ u → c ≢ 40 → c ≢ 91 → Passes beginning t outside t true
no_bracket_starts t u c first no_parenthesis no_bracket = not_started t (ap is_started first ∙ rw (differ c 40 no_parenthesis, differ c 91 no_bracket) refl)

-- bytes of a class stay at such a place
record PassesSome (place : Place) (t rest : List ℕ) : Type 0 where
  pub named : Bool
  pub passes : Passes place t place rest named

module _ (place : Place) (is : ℕ → Bool) (stays : (c : ℕ) (t : List ℕ) → is c ≡ true → place_after place c t ≡ Some place) where
  past_passes : (t : List ℕ) → PassesSome place t (past is t)
  past_passes [] = record { named = true; passes = passes_none place [] }
  past_passes (c ∷ t) = elim (cases_Bool (is c)) [
    | inl e ↦ rw e (record { named = _; passes = passes_then (pass_byte place c t place (stays c t e)) (past_passes t).passes })
    | inr e ↦ rw e (record { named = true; passes = passes_none place (c ∷ t) })
  ]

past_marked : (set : ByteClass) (t : List ℕ) → drop (marked_len set t) t ≡ past (is_in set) t
past_marked set [] = refl
past_marked set (c ∷ t) = elim (cases_Bool (is_in set c)) [ inl e ↦ rw e (past_marked set t) | inr e ↦ rw e refl ]

-- no start is where no name could begin
pub no_word_without_name : (t : List ℕ) → begins_name t ≡ false → is_word_closed t ≡ false
no_word_without_name [] h = refl
no_word_without_name (c ∷ t) h = let no_word = false_from_ne_true (is_debug_byte c) (λ e. let none = rw e at h in cc) in rw no_word refl

pub no_address_without_name : (t : List ℕ) → begins_name t ≡ false → is_address_closed t ≡ false
no_address_without_name [] h = refl
no_address_without_name (c ∷ t) h = ap (λ b. b && is_port (past is_name_byte t)) h

-- what is looked at after an apostrophe
pub continuations_are_past : (t rest : List ℕ) (n : ℕ) → n ≡ marked_len Continuation t → rest ≡ drop n t → rest ≡ past is_continuation t
continuations_are_past t rest n len is = is ∙ ap (λ k. drop k t) len ∙ past_marked Continuation t

pub escape_is_past : (t rest : List ℕ) (n : ℕ) → n ≡ marked_len Escape t → rest ≡ drop n t → rest ≡ past is_escape_byte t
escape_is_past t rest n len is = is ∙ ap (λ k. drop k t) len ∙ past_marked Escape t

word_stays : (c : ℕ) (t : List ℕ) → is_debug_byte c ≡ true → place_after in_word c t ≡ Some in_word
word_stays c t h = let other : (c == 41) ≡ false = grind (arith, nat_tests) in rw (h, other) refl

address_stays : (c : ℕ) (t : List ℕ) → is_name_byte c ≡ true → place_after in_address c t ≡ Some in_address
address_stays c t h = let other : (c == 93) ≡ false = grind (arith, nat_tests) in rw (h, other) refl

-- the first byte is of the class if and only if some are
first_marked : (set : ByteClass) (c : ℕ) (t : List ℕ) (none : Bool) → (marked_len set (c ∷ t) == 0) ≡ none → is_in set c ≡ not none
first_marked set c t none h = elim (cases_Bool (is_in set c)) [
  | inl e ↦ let some : (suc (marked_len set t) == 0) ≡ false = grind (arith, nat_tests) in e ∙ sym (ap not (sym (rw e at h) ∙ some))
  | inr e ↦ e ∙ sym (ap not (sym (rw e at h)))
]

-- so a text that begins with no byte of these classes begins with no word or address that is closed
unmarked_word : (t : List ℕ) → (marked_len Word t == 0) ≡ true → is_word_closed t ≡ false
unmarked_word [] h = refl
unmarked_word (c ∷ t) h = rw (first_marked Word c t true h) refl

unmarked_address : (t : List ℕ) → (marked_len Name t == 0) ≡ true → is_address_closed t ≡ false
unmarked_address [] h = refl
unmarked_address (c ∷ t) h = rw (first_marked Name c t true h) refl

-- where what closes them comes after some, they are closed
marked_word : (t rest : List ℕ) → (marked_len Word t == 0) ≡ false → past is_debug_byte t ≡ 41 ∷ rest → is_word_closed t ≡ true
marked_word [] rest some is = absurd (cc)
marked_word (c ∷ t) rest some is =
    let word : is_debug_byte c ≡ true = first_marked Word c t false some in
    let later : past is_debug_byte t ≡ 41 ∷ rest = rw word at is in
    rw (word, later) refl

marked_address : (t : List ℕ) → (marked_len Name t == 0) ≡ false → is_port (past is_name_byte t) ≡ true → is_address_closed t ≡ true
marked_address [] some is = absurd (cc)
marked_address (c ∷ t) some is =
    let name : is_name_byte c ≡ true = first_marked Name c t false some in
    let later : is_port (past is_name_byte t) ≡ true = rw name at is in
    rw (name, later) refl

-- a text that doesn't begin with what closes a word or an address ends none
no_parenthesis : (t : List ℕ) → strip (codes ")") t ≡ None → begins_with 41 t ≡ false
no_parenthesis [] h = refl
no_parenthesis (c ∷ t) h = grind (arith, nat_tests)

no_port : (t : List ℕ) → strip (codes "]:") t ≡ None → is_port t ≡ false
no_port [] h = refl
no_port (c ∷ []) h = refl
no_port (c ∷ b ∷ []) h = refl
no_port (c ∷ b ∷ d ∷ t) h = grind (arith, nat_tests)

module _ (t after : List ℕ) (n : ℕ) (len : n ≡ marked_len Word t) (back : after ≡ drop n t) where
  word_past : after ≡ past is_debug_byte t
  word_past = back ∙ ap (λ k. drop k t) len ∙ past_marked Word t

  pub no_word_here : (n == 0) ≡ true → is_word_closed t ≡ false
  no_word_here none = unmarked_word t (ap (λ k. k == 0) (sym len) ∙ none)

  pub word_unclosed : strip (codes ")") after ≡ None → is_word_closed t ≡ false
  word_unclosed none = word_by_end t (ap (begins_with 41) (sym word_past) ∙ no_parenthesis after none)

  pub word_closed : (rest : List ℕ) → (n == 0) ≡ false → strip (codes ")") after ≡ Some rest → (is_word_closed t ≡ true) × Passes beginning (40 ∷ t) outside rest false
  word_closed rest some closes = (closed, passes_then (pass_byte beginning 40 t in_word (rw closed refl)) (passes_then inside.passes end))
    where
      all : past is_debug_byte t ≡ 41 ∷ rest
      all = sym word_past ∙ strip_found (codes ")") after rest closes

      closed : is_word_closed t ≡ true
      closed = marked_word t rest (ap (λ k. k == 0) (sym len) ∙ some) all

      inside : PassesSome in_word t (past is_debug_byte t)
      inside = past_passes in_word is_debug_byte word_stays t

      end : Passes in_word (past is_debug_byte t) outside rest false
      end = subst (λ u. Passes in_word u outside rest false) (sym all) (pass_byte in_word 41 rest outside refl)

module _ (t after : List ℕ) (n : ℕ) (len : n ≡ marked_len Name t) (back : after ≡ drop n t) where
  address_past : after ≡ past is_name_byte t
  address_past = back ∙ ap (λ k. drop k t) len ∙ past_marked Name t

  pub no_address_here : (n == 0) ≡ true → is_address_closed t ≡ false
  no_address_here none = unmarked_address t (ap (λ k. k == 0) (sym len) ∙ none)

  unclosed : is_port after ≡ false → is_address_closed t ≡ false
  unclosed none = address_by_port t (ap is_port (sym address_past) ∙ none)

  pub no_closing : strip (codes "]:") after ≡ None → is_address_closed t ≡ false
  no_closing none = unclosed (no_port after none)

  module _ (rest : List ℕ) (closes : strip (codes "]:") after ≡ Some rest) where
    parts : after ≡ 93 ∷ 58 ∷ rest
    parts = strip_found (codes "]:") after rest closes

    pub nothing_after : length rest ≡ 0 → is_address_closed t ≡ false
    nothing_after none = unclosed (ap is_port parts ∙ elim rest as (λ u. length u ≡ 0 → is_port (93 ∷ 58 ∷ u) ≡ false) [ [] ↦ λ e. refl | c ∷ u ↦ λ e. absurd (omega (arith, e)) ] none)

    pub no_port_byte : (d : ℕ) (u : List ℕ) → rest ≡ d ∷ u → is_plain_byte d ≡ false → is_address_closed t ≡ false
    no_port_byte d u first none = unclosed (ap is_port parts ∙ ap (λ v. is_port (93 ∷ 58 ∷ v)) first ∙ none)

    pub address_closed : (d : ℕ) (u : List ℕ) → (n == 0) ≡ false → rest ≡ d ∷ u → is_plain_byte d ≡ true → (is_address_closed t ≡ true) × Passes beginning (91 ∷ t) outside rest false
    address_closed d u some first plain = (closed, passes_then (pass_byte beginning 91 t in_address (rw closed refl)) (passes_then inside.passes end))
      where
        all : past is_name_byte t ≡ 93 ∷ 58 ∷ rest
        all = sym address_past ∙ parts

        port : is_port (past is_name_byte t) ≡ true
        port = ap is_port all ∙ ap (λ v. is_port (93 ∷ 58 ∷ v)) first ∙ plain

        closed : is_address_closed t ≡ true
        closed = marked_address t (ap (λ k. k == 0) (sym len) ∙ some) port

        inside : PassesSome in_address t (past is_name_byte t)
        inside = past_passes in_address is_name_byte address_stays t

        end : Passes in_address (past is_name_byte t) outside rest false
        end = subst (λ v. Passes in_address v outside rest false) (sym all)
            (passes_then (pass_byte in_address 93 (58 ∷ rest) after_address refl) (pass_byte after_address 58 rest outside refl))

-- the bytes before the rest are the leaf at the front
module _ (t rest leaf : List ℕ) (named : Bool) (ends : EndsLeaf t rest named) (front : leaf ≡ take (length t - length rest) t) where
  leaf_is : leaf ≡ leaf_from beginning t
  leaf_is =
      let bytes = ends.passes.bytes in
      let count : length t - length rest ≡ length bytes = omega (arith, ap length ends.passes.whole, length-append bytes rest) in
      front ∙ ap (λ n. take n t) count ∙ ap (take (length bytes)) ends.passes.whole ∙ take-append_seam bytes rest
      ∙ sym (ends.passes.front ∙ ap (λ u. bytes ++ u) ends.none ∙ append-nil bytes)

  closed_leaf : is_outside (last_place beginning (leaf_from beginning t)) ≡ true
  closed_leaf = ends.passes.last ∙ ap (λ w. is_outside (last_place ends.place w)) ends.none ∙ ends.closed

  pub leaf_splits : (found : Front) → found.text.now ≡ leaf → found.rest.now ≡ rest → found.is_name ≡ named && not (ends_in_colon leaf) → IsUtf8 leaf → IsSplit Debug t found
  leaf_splits found text after is_name utf8 = record {
    text = text ∙ leaf_is;
    rest = after ∙ sym (ends.passes.after ∙ ends.all);
    name = is_name ∙ ap (λ w. named && not (ends_in_colon w)) leaf_is ∙ ap (λ b. b && not (ends_in_colon (leaf_from beginning t))) (sym bytes_named);
    whole = rw (closed_leaf, is_utf8-from_IsUtf8 (leaf_from beginning t) (subst IsUtf8 leaf_is utf8)) refl;
  }
    where
      bytes_named : has_name_bytes (leaf_from beginning t) ≡ named
      bytes_named = ap has_name_bytes (ends.passes.front ∙ ap (λ u. ends.passes.bytes ++ u) ends.none ∙ append-nil ends.passes.bytes) ∙ ends.passes.has

  pub leaf_is_broken : ¬ (IsUtf8 leaf) → is_whole Debug (leaf_from beginning t) ≡ false
  leaf_is_broken broken = false_from_ne_true (is_whole Debug (leaf_from beginning t)) (λ e.
      let parts = both (is_outside (last_place beginning (leaf_from beginning t))) (is_utf8 (leaf_from beginning t)) e in
      broken (subst IsUtf8 (sym leaf_is) (IsUtf8-from_is_utf8 (leaf_from beginning t) parts.1)))
