-- Leaves of debug documents: what follows a leaf doesn't change where it ends, and only leaves are found at the front of a text.
use Rattle.std.proofs.Common.{◌≡◌, ◌⊎◌, inl, inr, refl, ap, sym, subst, ◌∙◌, ◌≢◌, ℕ, nat_le, ◌==◌, ◌||◌, ◌&&◌, not, Bool, true, false, cond, List, [], ◌∷◌, ◌++◌, Option, Some, None, eqb-true, arith}
use Rattle.std.proofs.lemmas.Bool.{cases_Bool, false_from_ne_true, not-true}
use Rattle.std.specs.Prelude.{⊤}
use Rattle.std.proofs.lemmas.Bool.Decides.{nat_tests}
use Rattle.ufmt_core.specs.Bytes.{apostrophe, backslash, closing_bracket, closing_parenthesis, colon, opening_bracket, opening_parenthesis, quotation_mark, space}
use Rattle.ufmt_grammar.specs.Leaves.{is_control, is_quote, is_ender, is_debug_byte, begins_with, begins_quote, is_spaced, is_in_word, is_plain_byte, is_name_byte, past, is_word_closed, is_port, is_address_closed, begins_plain, is_continuation, is_escape_byte, is_escape_closed, is_character_closed, opens_quotes, is_lifetime, Place, beginning, outside, after_quotes, in_parentheses, in_word, in_address, after_address, between, after_backslash, is_outside, place_outside, place_after, EndsLeaf, ends_in_colon, IsDebugFollower}
use Rattle.ufmt_grammar.specs.Parse.{choose}
use Rattle.ufmt_grammar.specs.Reading.{leaf_from, after_leaf, last_place}
use Rattle.ufmt_grammar.proofs.ReadingWords.{each_ender}

-- ---- bytes outside of quotes

-- a byte outside of quotes is in a word, opens quotes, is a lifetime's apostrophe, or opens `()`
abbrev pub OutsideStep : ℕ → List ℕ → Place → Type 0
OutsideStep c t next = ((is_in_word c t ≡ true) × (next ≡ outside)) ⊎ ((opens_quotes c t ≡ true) × (next ≡ between c))
    ⊎ ((opens_quotes c t ≡ false) × (is_lifetime c t ≡ true) × (next ≡ outside)) ⊎ ((c ≡ opening_parenthesis) × (begins_with closing_parenthesis t ≡ true) × (next ≡ in_parentheses))

pub outside_step : (c : ℕ) (t : List ℕ) (next : Place) → place_outside c t ≡ Some next → OutsideStep c t next
outside_step c t next h = by_tests (is_in_word c t) (opens_quotes c t) (is_lifetime c t) (c == opening_parenthesis) (begins_with closing_parenthesis t) (eqb-true c opening_parenthesis) h
  where
    by_tests : (word quote lifetime opens closes : Bool) → (opens ≡ true → c ≡ opening_parenthesis)
        → cond word (Some outside) (cond quote (Some (between c)) (cond lifetime (Some outside) (cond (opens && closes) (Some in_parentheses) None))) ≡ Some next
        → ((word ≡ true) × (next ≡ outside)) ⊎ ((quote ≡ true) × (next ≡ between c)) ⊎ ((quote ≡ false) × (lifetime ≡ true) × (next ≡ outside))
        ⊎ ((c ≡ opening_parenthesis) × (closes ≡ true) × (next ≡ in_parentheses))
    by_tests word quote lifetime opens closes is h = grind arith

-- an opening quote is a quotation mark, or an apostrophe before a character
pub opens_by : (c : ℕ) (t : List ℕ) → opens_quotes c t ≡ true → (c ≡ quotation_mark) ⊎ ((c ≡ apostrophe) × (is_character_closed t ≡ true))
opens_by c t h = grind (arith, nat_tests)

pub opening_is_quote : (c : ℕ) (t : List ℕ) → opens_quotes c t ≡ true → is_quote c ≡ true
opening_is_quote c t h = elim (opens_by c t h) [ inl mark ↦ rw mark refl | inr character ↦ rw character.0 refl ]

-- so is the apostrophe of a lifetime, before a byte of a word
pub lifetime_by : (c : ℕ) (t : List ℕ) → is_lifetime c t ≡ true → (c ≡ apostrophe) × (begins_plain t ≡ true)
lifetime_by c t h = grind (arith, nat_tests)

-- a property of each quote holds of every quote
pub each_quote : (P : ℕ → Type 0) → P quotation_mark → P apostrophe → (c : ℕ) → is_quote c ≡ true → P c
each_quote P of_mark of_apostrophe c h = grind (arith, nat_tests)

pub step_outside : (c : ℕ) (t : List ℕ) (next : Place) → OutsideStep c t next → place_outside c t ≡ Some next
step_outside c t next (inl h) = rw (h.0, h.1) refl
step_outside c t next (inr (inl h)) = rw h.1 (quotes (opens_by c t h.0))
  where
    quotes : (c ≡ quotation_mark) ⊎ ((c ≡ apostrophe) × (is_character_closed t ≡ true)) → place_outside c t ≡ Some (between c)
    quotes (inl mark) = rw mark refl
    quotes (inr character) = rw (character.0, character.1) refl
step_outside c t next (inr (inr (inl h))) = rw h.2 (lifetime (lifetime_by c t h.1) h.0)
  where
    lifetime : (c ≡ apostrophe) × (begins_plain t ≡ true) → opens_quotes c t ≡ false → place_outside c t ≡ Some outside
    lifetime is none =
        let character : is_character_closed t ≡ false = sym (ap (λ b. opens_quotes b t) is.0) ∙ none in
        rw (is.0, character, is.1) refl
step_outside c t next (inr (inr (inr h))) = rw (h.0, h.1, h.2) refl

-- a byte of a word that is no backslash is in a word, whatever follows
pub plain_in_word : (c : ℕ) (t : List ℕ) → is_debug_byte c ≡ true → (c == backslash) ≡ false → is_in_word c t ≡ true
plain_in_word c t word plain = let no_colon : (c == colon) ≡ false = grind (arith, nat_tests) in rw (word, no_colon, plain) refl

pub plain_is_in_word : (c : ℕ) (t : List ℕ) → is_plain_byte c ≡ true → is_in_word c t ≡ true
plain_is_in_word c t h =
    let word : is_debug_byte c ≡ true = grind (arith, nat_tests) in
    let plain : (c == backslash) ≡ false = grind (arith, nat_tests) in
    plain_in_word c t word plain

-- no word has a space
pub no_space : (c : ℕ) (t : List ℕ) (next : Place) → place_outside c t ≡ Some next → (c == space) ≡ false
no_space c t next h = grind (arith, nat_tests)

-- `()` is no word in parentheses
unit_is_no_word : (next : Place) (t : List ℕ) → place_outside opening_parenthesis t ≡ Some next → is_word_closed t ≡ false
unit_is_no_word next [] h = refl
unit_is_no_word next (b ∷ t) h = grind (arith, nat_tests)

-- a byte outside of quotes belongs to the leaf at its start too
pub at_beginning : (c : ℕ) (t : List ℕ) (next : Place) → place_outside c t ≡ Some next → place_after beginning c t ≡ Some next
at_beginning c t next h = grind (arith, nat_tests, unit_is_no_word next t)

-- so what is a leaf's rest outside of quotes is a leaf
pub from_beginning : (w : List ℕ) → EndsLeaf outside w → EndsLeaf beginning w
from_beginning [] h = refl
from_beginning (c ∷ w) h = (h.0, at_beginning c w h.0 h.1, h.2)

-- ---- what is read ahead

-- what is looked at after a byte of a leaf, before the place `next`, is the same in the text `u` as in the text `t`
record SameAhead (c : ℕ) (next : Place) (t u : List ℕ) : Type 0 where
  unspaced : next ≡ outside → (c == colon) ≡ true → is_spaced t ≡ false → is_spaced u ≡ false
  no_quote : begins_quote t ≡ false → begins_quote u ≡ false
  closes : next ≡ in_parentheses → begins_with closing_parenthesis t ≡ true → begins_with closing_parenthesis u ≡ true
  word : next ≡ in_word → is_word_closed t ≡ true → is_word_closed u ≡ true
  address : next ≡ in_address → is_address_closed t ≡ true → is_address_closed u ≡ true
  character : next ≡ between apostrophe → is_character_closed t ≡ true → is_character_closed u ≡ true
  lifetime : next ≡ outside → is_character_closed t ≡ false → begins_plain t ≡ true → (is_character_closed u ≡ false) × (begins_plain u ≡ true)

word_too : (c : ℕ) (t u : List ℕ) → ((c == colon) ≡ true → is_spaced t ≡ false → is_spaced u ≡ false) → (begins_quote t ≡ false → begins_quote u ≡ false)
    → is_in_word c t ≡ true → is_in_word c u ≡ true
word_too c t u unspaced no_quote h = grind (arith, nat_tests)

quotes_too : (c : ℕ) (t u : List ℕ) (next : Place) → SameAhead c next t u → next ≡ between c → (c ≡ quotation_mark) ⊎ ((c ≡ apostrophe) × (is_character_closed t ≡ true))
    → opens_quotes c u ≡ true
quotes_too c t u next same place (inl mark) = rw mark refl
quotes_too c t u next same place (inr character) = rw (character.0, same.character (place ∙ ap between character.0) character.1) refl

lifetime_too : (c : ℕ) (t u : List ℕ) (next : Place) → SameAhead c next t u → next ≡ outside → (c ≡ apostrophe) × (begins_plain t ≡ true) → opens_quotes c t ≡ false
    → (opens_quotes c u ≡ false) × (is_lifetime c u ≡ true) × (next ≡ outside)
lifetime_too c t u next same place is none =
    let character : is_character_closed t ≡ false = sym (ap (λ b. opens_quotes b t) is.0) ∙ none in
    let later = same.lifetime place character is.1 in
    (rw (is.0, later.0) refl, rw (is.0, later.1) refl, place)

outside_too : (c : ℕ) (t u : List ℕ) (next : Place) → SameAhead c next t u → place_outside c t ≡ Some next → place_outside c u ≡ Some next
outside_too c t u next same h = step_outside c u next (elim (outside_step c t next h) [
  | inl step ↦ inl (word_too c t u (same.unspaced step.1) same.no_quote step.0, step.1)
  | inr (inl step) ↦ inr (inl (quotes_too c t u next same step.1 (opens_by c t step.0), step.1))
  | inr (inr (inl step)) ↦ inr (inr (inl (lifetime_too c t u next same step.2 (lifetime_by c t step.1) step.0)))
  | inr (inr (inr step)) ↦ inr (inr (inr (step.0, same.closes step.2 step.1, step.2)))
])

-- a byte of the leaf belongs to it too where the same comes next
after_too : (place : Place) (c : ℕ) (t u : List ℕ) (next : Place) → SameAhead c next t u → place_after place c t ≡ Some next → place_after place c u ≡ Some next
after_too beginning c t u next same h =
    by_tests (c == opening_parenthesis) (is_word_closed t) (is_word_closed u) (c == opening_bracket) (is_address_closed t) (is_address_closed u) (place_outside c t) (place_outside c u)
    one same.word same.address (λ step. at_beginning c u next (outside_too c t u next same step)) h
  where
    one : (c == opening_parenthesis) ≡ true → (c == opening_bracket) ≡ false
    one is = grind (arith, nat_tests)

    by_tests : (parenthesis word word' bracket address address' : Bool) (o o' : Option Place) → (parenthesis ≡ true → bracket ≡ false)
        → (next ≡ in_word → word ≡ true → word' ≡ true) → (next ≡ in_address → address ≡ true → address' ≡ true)
        → (o ≡ Some next → cond (parenthesis && word') (Some in_word) (cond (bracket && address') (Some in_address) o') ≡ Some next)
        → cond (parenthesis && word) (Some in_word) (cond (bracket && address) (Some in_address) o) ≡ Some next
        → cond (parenthesis && word') (Some in_word) (cond (bracket && address') (Some in_address) o') ≡ Some next
    by_tests parenthesis word word' bracket address address' o o' one in_words in_addresses others h = grind arith
after_too outside c t u next same h = outside_too c t u next same h
after_too after_quotes c t u next same h = grind (arith, outside_too c t u next same)
after_too in_parentheses c t u next same h = h
after_too in_word c t u next same h = h
after_too in_address c t u next same h = h
after_too after_address c t u next same h = h
after_too (between quote) c t u next same h = h
after_too (after_backslash quote) c t u next same h = h

-- ---- what follows a leaf

-- the text doesn't begin with a byte of a leaf, nor with a quote
abbrev pub StopsLeaf : List ℕ → Type 0
StopsLeaf [] = ⊤
StopsLeaf (c ∷ t) = (place_outside c t ≡ None) × (is_quote c ≡ false)

pub follower_stops_leaf : (u : List ℕ) → IsDebugFollower u → StopsLeaf u
follower_stops_leaf [] h = tt
follower_stops_leaf (c ∷ []) h = each_ender (λ b. (place_outside b [] ≡ None) × (is_quote b ≡ false)) (refl, refl) (refl, refl) (refl, refl) (refl, refl) c h
follower_stops_leaf (c ∷ b ∷ u) (inl h) = each_ender (λ d. (place_outside d (b ∷ u) ≡ None) × (is_quote d ≡ false)) (refl, refl) (refl, refl) (refl, refl) (refl, refl) c h
follower_stops_leaf (c ∷ b ∷ u) (inr (inl h)) = rw (h.0, h.1, h.2) (refl, refl)
follower_stops_leaf (c ∷ b ∷ u) (inr (inr h)) = rw h.0 (refl, refl)

-- a colon before what may follow belongs to the leaf
pub follower_unspaced : (u : List ℕ) → IsDebugFollower u → is_spaced u ≡ false
follower_unspaced [] h = refl
follower_unspaced (c ∷ []) h = each_ender (λ b. is_spaced (b ∷ []) ≡ false) refl refl refl refl c h
follower_unspaced (c ∷ b ∷ u) (inl h) = each_ender (λ d. is_spaced (d ∷ b ∷ u) ≡ false) refl refl refl refl c h
follower_unspaced (c ∷ b ∷ u) (inr (inl h)) = rw h.0 refl
follower_unspaced (c ∷ b ∷ u) (inr (inr h)) = rw (h.0, h.1) refl

-- what is found past such bytes is found there too if the text is longer
past_more : (is : ℕ → Bool) (found : List ℕ → Bool) → found [] ≡ false → ((c : ℕ) (t u : List ℕ) → found (c ∷ t) ≡ true → found (c ∷ (t ++ u)) ≡ true)
    → (w u : List ℕ) → found (past is w) ≡ true → found (past is (w ++ u)) ≡ true
past_more is found none more [] u h = absurd (cc)
past_more is found none more (c ∷ w) u h = grind (arith, past_more is found none more w u, more c w u)

port_more : (c : ℕ) (t u : List ℕ) → is_port (c ∷ t) ≡ true → is_port (c ∷ (t ++ u)) ≡ true
port_more c [] u h = absurd (cc)
port_more c (b ∷ []) u h = absurd (cc)
port_more c (b ∷ d ∷ t) u h = h

pub both : (a b : Bool) → a && b ≡ true → (a ≡ true) × (b ≡ true)
both true b h = (refl, h)
both false b h = absurd (cc)

word_more : (w u : List ℕ) → is_word_closed w ≡ true → is_word_closed (w ++ u) ≡ true
word_more [] u h = absurd (cc)
word_more (c ∷ w) u h =
    let parts = both (is_debug_byte c) (begins_with closing_parenthesis (past is_debug_byte w)) h in
    rw (parts.0, past_more is_debug_byte (begins_with closing_parenthesis) refl (λ b t v k. k) w u parts.1) refl

address_more : (w u : List ℕ) → is_address_closed w ≡ true → is_address_closed (w ++ u) ≡ true
address_more [] u h = absurd (cc)
address_more (c ∷ w) u h =
    let parts = both (is_name_byte c) (is_port (past is_name_byte w)) h in
    rw (parts.0, past_more is_name_byte is_port refl port_more w u parts.1) refl

escape_more : (w u : List ℕ) → is_escape_closed w ≡ true → is_escape_closed (w ++ u) ≡ true
escape_more [] u h = absurd (cc)
escape_more (c ∷ w) u h =
    let parts = both (not (is_control c || nat_le 128 c)) (begins_with apostrophe (past is_escape_byte w)) h in
    rw (parts.0, past_more is_escape_byte (begins_with apostrophe) refl (λ d t v e. e) w u parts.1) refl

-- a character is closed in a longer text too
character_more : (w u : List ℕ) → is_character_closed w ≡ true → is_character_closed (w ++ u) ≡ true
character_more [] u h = absurd (cc)
character_more (c ∷ w) u h = elim (cases_Bool (c == backslash)) [
  | inl escapes ↦ rw escapes (escape_more w u (rw escapes at h))
  | inr plain ↦
      let parts = both (not (is_control c || c == apostrophe)) (begins_with apostrophe (past is_continuation w)) (rw plain at h) in
      rw (plain, parts.0, past_more is_continuation (begins_with apostrophe) refl (λ d t v e. e) w u parts.1) refl
]

-- a byte of a word at the front is no control, no apostrophe and no backslash
record IsLetter (c : ℕ) : Type 0 where
  inside : not (is_control c || c == apostrophe) ≡ true
  no_backslash : (c == backslash) ≡ false

plain_is_letter : (c : ℕ) → is_plain_byte c ≡ true → IsLetter c
plain_is_letter c h = record { inside = grind (arith, nat_tests); no_backslash = grind (arith, nat_tests) }

-- so before it an apostrophe opens quotes only if one comes after the character
pub character_by : (c : ℕ) (t : List ℕ) → is_plain_byte c ≡ true → is_character_closed (c ∷ t) ≡ begins_with apostrophe (past is_continuation t)
character_by c t h =
    let letter = plain_is_letter c h in
    rw (letter.no_backslash, letter.inside) refl

-- what stops a leaf begins with no apostrophe after the rest of a character
no_apostrophe_past : (u : List ℕ) → StopsLeaf u → begins_with apostrophe (past is_continuation u) ≡ false
no_apostrophe_past [] stops = refl
no_apostrophe_past (c ∷ u) stops = grind (arith, nat_tests)

no_apostrophe_more : (w u : List ℕ) → StopsLeaf u → begins_with apostrophe (past is_continuation w) ≡ false → begins_with apostrophe (past is_continuation (w ++ u)) ≡ false
no_apostrophe_more [] u stops h = no_apostrophe_past u stops
no_apostrophe_more (c ∷ w) u stops h = grind (arith, no_apostrophe_more w u stops)

-- a lifetime at a leaf's end stays one before what stops the leaf
no_character_more : (c : ℕ) (w u : List ℕ) → is_plain_byte c ≡ true → StopsLeaf u → is_character_closed (c ∷ w) ≡ false → is_character_closed (c ∷ (w ++ u)) ≡ false
no_character_more c w u plain stops h = character_by c (w ++ u) plain ∙ no_apostrophe_more w u stops (sym (character_by c w plain) ∙ h)

no_quote_next : (u : List ℕ) → StopsLeaf u → begins_quote u ≡ false
no_quote_next [] stops = refl
no_quote_next (c ∷ u) stops = stops.1

-- the same comes next in a leaf with what follows it, if no colon at the leaf's end is before a space
same_before : (c : ℕ) (next : Place) (w u : List ℕ) → EndsLeaf next w → StopsLeaf u → (ends_in_colon (c ∷ w) ≡ true → is_spaced u ≡ false) → SameAhead c next w (w ++ u)
same_before c next [] u ends stops seam = record {
  unspaced = λ place is h. seam is;
  no_quote = λ h. no_quote_next u stops;
  closes = λ place h. absurd (cc);
  word = λ place h. absurd (cc);
  address = λ place h. absurd (cc);
  character = λ place h. absurd (cc);
  lifetime = λ place h plain. absurd (cc);
}
same_before c next (b ∷ w) u ends stops seam = record {
  unspaced = λ place is h. let none = no_space b w ends.0 (subst (λ p. place_after p b w ≡ Some ends.0) place ends.1) in rw none refl;
  no_quote = λ h. h;
  closes = λ place h. h;
  word = λ place h. word_more (b ∷ w) u h;
  address = λ place h. address_more (b ∷ w) u h;
  character = λ place h. character_more (b ∷ w) u h;
  lifetime = λ place h plain. (no_character_more b w u plain stops h, plain);
}

-- the leaf has begun at this place, or it isn't over
abbrev pub HasBegun : Place → List ℕ → Type 0
HasBegun beginning [] = ⊥
HasBegun beginning (c ∷ w) = ⊤
HasBegun outside w = ⊤
HasBegun after_quotes w = ⊤
HasBegun in_parentheses w = ⊤
HasBegun in_word w = ⊤
HasBegun in_address w = ⊤
HasBegun after_address w = ⊤
HasBegun (between quote) w = ⊤
HasBegun (after_backslash quote) w = ⊤

pub some_begun : (place : Place) (w : List ℕ) → w ≢ [] → HasBegun place w
some_begun beginning [] some = absurd (some refl)
some_begun beginning (c ∷ w) some = tt
some_begun outside w some = tt
some_begun after_quotes w some = tt
some_begun in_parentheses w some = tt
some_begun in_word w some = tt
some_begun in_address w some = tt
some_begun after_address w some = tt
some_begun (between quote) w some = tt
some_begun (after_backslash quote) w some = tt

-- after a byte it has
begun_outside : (c : ℕ) (t : List ℕ) (next : Place) (w : List ℕ) → place_outside c t ≡ Some next → HasBegun next w
begun_outside c t next w h = grind (arith, outside_step c t next h)

pub begun_after : (place : Place) (c : ℕ) (t : List ℕ) (next : Place) (w : List ℕ) → place_after place c t ≡ Some next → HasBegun next w
begun_after place c t beginning [] h = absurd (none place h)
  where
    at_outside : place_outside c t ≡ Some beginning → ⊥
    at_outside e = begun_outside c t beginning [] e

    two : (a b : Bool) (x y : Place) → (x ≡ beginning → ⊥) → (y ≡ beginning → ⊥) → cond a (Some x) (cond b (Some y) None) ≡ Some beginning → ⊥
    two true b x y no_x no_y e = no_x cc
    two false true x y no_x no_y e = no_y cc
    two false false x y no_x no_y e = absurd (cc)

    none : (place : Place) → place_after place c t ≡ Some beginning → ⊥
    none beginning e = start (c == opening_parenthesis && is_word_closed t) (c == opening_bracket && is_address_closed t) e
      where
        start : (a b : Bool) → cond a (Some in_word) (cond b (Some in_address) (place_outside c t)) ≡ Some beginning → ⊥
        start true b f = absurd (cc)
        start false true f = absurd (cc)
        start false false f = at_outside f
    none outside e = at_outside e
    none after_quotes e = colon_or (c == colon) e
      where
        colon_or : (a : Bool) → cond a None (place_outside c t) ≡ Some beginning → ⊥
        colon_or true f = absurd (cc)
        colon_or false f = at_outside f
    none in_parentheses e = two (c == closing_parenthesis) false outside outside (λ k. absurd (cc)) (λ k. absurd (cc)) e
    none in_word e = two (c == closing_parenthesis) (is_debug_byte c) outside in_word (λ k. absurd (cc)) (λ k. absurd (cc)) e
    none in_address e = two (c == closing_bracket) (is_name_byte c) after_address in_address (λ k. absurd (cc)) (λ k. absurd (cc)) e
    none after_address e = two (c == colon) false outside outside (λ k. absurd (cc)) (λ k. absurd (cc)) e
    none (between quote) e = quoted (is_control c) (c == quote) (c == backslash) e
      where
        quoted : (x y z : Bool) → cond x None (cond y (Some after_quotes) (cond z (Some (after_backslash quote)) (Some (between quote)))) ≡ Some beginning → ⊥
        quoted true y z f = absurd (cc)
        quoted false true z f = absurd (cc)
        quoted false false true f = absurd (cc)
        quoted false false false f = absurd (cc)
    none (after_backslash quote) e = taken (is_control c || nat_le 128 c) e
      where
        taken : (x : Bool) → cond x None (Some (between quote)) ≡ Some beginning → ⊥
        taken true f = absurd (cc)
        taken false f = absurd (cc)
begun_after place c t beginning (b ∷ w) h = tt
begun_after place c t outside w h = tt
begun_after place c t after_quotes w h = tt
begun_after place c t in_parentheses w h = tt
begun_after place c t in_word w h = tt
begun_after place c t in_address w h = tt
begun_after place c t after_address w h = tt
begun_after place c t (between quote) w h = tt
begun_after place c t (after_backslash quote) w h = tt

pub stopped : (place : Place) (u : List ℕ) → HasBegun place [] → is_outside place ≡ true → StopsLeaf u → (leaf_from place u ≡ []) × (after_leaf place u ≡ u)
stopped place [] begun h stops = (refl, refl)
stopped beginning (c ∷ u) begun h stops = absurd begun
stopped outside (c ∷ u) begun h stops = rw stops.0 (refl, refl)
stopped after_quotes (c ∷ u) begun h stops = grind arith
stopped in_parentheses (c ∷ u) begun h stops = absurd (cc)
stopped in_word (c ∷ u) begun h stops = absurd (cc)
stopped in_address (c ∷ u) begun h stops = absurd (cc)
stopped after_address (c ∷ u) begun h stops = absurd (cc)
stopped (between quote) (c ∷ u) begun h stops = absurd (cc)
stopped (after_backslash quote) (c ∷ u) begun h stops = absurd (cc)

tail_seam : (c : ℕ) (w u : List ℕ) → (ends_in_colon (c ∷ w) ≡ true → is_spaced u ≡ false) → ends_in_colon w ≡ true → is_spaced u ≡ false
tail_seam c [] u seam = λ h. absurd (cc)
tail_seam c (b ∷ w) u seam = seam

-- a leaf ends where it did, if no byte of a leaf follows, and no colon at its end is before a space
pub leaf_from-append : (place : Place) (w u : List ℕ) → HasBegun place w → EndsLeaf place w → StopsLeaf u → (ends_in_colon w ≡ true → is_spaced u ≡ false) → leaf_from place (w ++ u) ≡ w
leaf_from-append place [] u begun h stops seam = (stopped place u begun h stops).0
leaf_from-append place (c ∷ w) u begun h stops seam =
    rw (after_too place c w (w ++ u) h.0 (same_before c h.0 w u h.2 stops seam) h.1) (ap (λ t. c ∷ t) (leaf_from-append h.0 w u (begun_after place c w h.0 w h.1) h.2 stops (tail_seam c w u seam)))

pub after_leaf-append : (place : Place) (w u : List ℕ) → HasBegun place w → EndsLeaf place w → StopsLeaf u → (ends_in_colon w ≡ true → is_spaced u ≡ false) → after_leaf place (w ++ u) ≡ u
after_leaf-append place [] u begun h stops seam = (stopped place u begun h stops).1
after_leaf-append place (c ∷ w) u begun h stops seam =
    rw (after_too place c w (w ++ u) h.0 (same_before c h.0 w u h.2 stops seam) h.1) (after_leaf-append h.0 w u (begun_after place c w h.0 w h.1) h.2 stops (tail_seam c w u seam))

pub leaves_whole : (place : Place) (t : List ℕ) → t ≡ leaf_from place t ++ after_leaf place t
leaves_whole place [] = refl
leaves_whole place (c ∷ t) = elim (place_after place c t) as (λ o. c ∷ t ≡ choose o (λ next. c ∷ leaf_from next t) [] ++ choose o (λ next. after_leaf next t) (c ∷ t)) [ None ↦ refl | Some next ↦ ap (λ u. c ∷ u) (leaves_whole next t) ]

-- a leaf's end is outside of quotes
pub last_is_outside : (place : Place) (w : List ℕ) → EndsLeaf place w → is_outside (last_place place w) ≡ true
last_is_outside place [] h = h
last_is_outside place (c ∷ w) h = rw h.1 (last_is_outside h.0 w h.2)

-- ---- the leaf at the front of a text

-- the word or the address at its start is closed in the leaf alone too
name_stays : (c : ℕ) (t : List ℕ) → is_name_byte c ≡ true → place_after in_address c t ≡ Some in_address
name_stays c t h = grind (arith, nat_tests)

word_past_alone : (t : List ℕ) → begins_with closing_parenthesis (past is_debug_byte t) ≡ true → begins_with closing_parenthesis (past is_debug_byte (leaf_from in_word t)) ≡ true
word_past_alone [] h = absurd (cc)
word_past_alone (c ∷ t) h = grind (arith, nat_tests, word_past_alone t)

word_alone : (t : List ℕ) → is_word_closed t ≡ true → is_word_closed (leaf_from in_word t) ≡ true
word_alone [] h = absurd (cc)
word_alone (c ∷ t) h =
    let parts = both (is_debug_byte c) (begins_with closing_parenthesis (past is_debug_byte t)) h in
    let word = parts.0 in
    let other : (c == closing_parenthesis) ≡ false = grind (arith, nat_tests) in
    let step : place_after in_word c t ≡ Some in_word = rw (word, other) refl in
    rw step (rw (word, word_past_alone t parts.1) refl)

port_alone : (c : ℕ) (t : List ℕ) → is_port (c ∷ t) ≡ true → is_port (past is_name_byte (leaf_from in_address (c ∷ t))) ≡ true
port_alone c [] h = absurd (cc)
port_alone c (b ∷ []) h = absurd (cc)
port_alone c (b ∷ d ∷ t) h =
    let all = both (c == closing_bracket && b == colon) (is_plain_byte d) h in
    let parts = both (c == closing_bracket) (b == colon) all.0 in
    let plain = both (is_debug_byte d) (not (d == backslash)) all.1 in
    let step : place_outside d t ≡ Some outside = rw (plain_in_word d t plain.0 (not-true (d == backslash) plain.1)) refl in
    rw (eqb-true c closing_bracket parts.0, eqb-true b colon parts.1) (ap (λ o. is_port (closing_bracket ∷ colon ∷ choose o (λ n. d ∷ leaf_from n t) [])) step ∙ all.1)

address_past_alone : (t : List ℕ) → is_port (past is_name_byte t) ≡ true → is_port (past is_name_byte (leaf_from in_address t)) ≡ true
address_past_alone [] h = absurd (cc)
address_past_alone (c ∷ t) h = elim (cases_Bool (is_name_byte c)) [
  | inl name ↦ rw (name_stays c t name) (rw name (address_past_alone t (rw name at h)))
  | inr other ↦ port_alone c t (rw other at h)
]

address_alone : (t : List ℕ) → is_address_closed t ≡ true → is_address_closed (leaf_from in_address t) ≡ true
address_alone [] h = absurd (cc)
address_alone (c ∷ t) h =
    let parts = both (is_name_byte c) (is_port (past is_name_byte t)) h in
    let step = name_stays c t parts.0 in
    rw step (rw (parts.0, address_past_alone t parts.1) refl)

-- a byte that stays between apostrophes
record StaysInside (c : ℕ) : Type 0 where
  no_control : is_control c ≡ false
  no_apostrophe : (c == apostrophe) ≡ false
  no_backslash : (c == backslash) ≡ false

stays_inside : (c : ℕ) (t : List ℕ) → StaysInside c → place_after (between apostrophe) c t ≡ Some (between apostrophe)
stays_inside c t h = rw (h.no_control, h.no_apostrophe, h.no_backslash) refl

-- such bytes and the apostrophe after them are in the leaf
inside_alone : (is : ℕ → Bool) → ((c : ℕ) → is c ≡ true → StaysInside c) → (t : List ℕ) → begins_with apostrophe (past is t) ≡ true
    → begins_with apostrophe (past is (leaf_from (between apostrophe) t)) ≡ true
inside_alone is stays [] h = absurd (cc)
inside_alone is stays (c ∷ t) h = grind (arith, nat_tests, inside_alone is stays t, stays_inside c t)

continuation_stays : (c : ℕ) → is_continuation c ≡ true → StaysInside c
continuation_stays c h = grind (arith, nat_tests)

escape_byte_stays : (c : ℕ) → is_escape_byte c ≡ true → StaysInside c
escape_byte_stays c h = grind (arith, nat_tests)

letter_stays : (c : ℕ) → not (is_control c || c == apostrophe) ≡ true → (c == backslash) ≡ false → StaysInside c
letter_stays c h plain = grind (arith, nat_tests)

-- the character in quotes is closed in the leaf alone too
escape_alone : (t : List ℕ) → is_escape_closed t ≡ true → is_escape_closed (leaf_from (after_backslash apostrophe) t) ≡ true
escape_alone [] h = absurd (cc)
escape_alone (c ∷ t) h =
    let parts = both (not (is_control c || nat_le 128 c)) (begins_with apostrophe (past is_escape_byte t)) h in
    let step : place_after (after_backslash apostrophe) c t ≡ Some (between apostrophe) = rw (not-true (is_control c || nat_le 128 c) parts.0) refl in
    rw step (rw (parts.0, inside_alone is_escape_byte escape_byte_stays t parts.1) refl)

character_alone : (t : List ℕ) → is_character_closed t ≡ true → is_character_closed (leaf_from (between apostrophe) t) ≡ true
character_alone [] h = absurd (cc)
character_alone (c ∷ t) h = elim (cases_Bool (c == backslash)) [
  | inl escapes ↦ rw (eqb-true c backslash escapes) (escape_alone t (rw escapes at h))
  | inr plain ↦
      let parts = both (not (is_control c || c == apostrophe)) (begins_with apostrophe (past is_continuation t)) (rw plain at h) in
      rw (stays_inside c t (letter_stays c parts.0 plain)) (rw (plain, parts.0, inside_alone is_continuation continuation_stays t parts.1) refl)
]

-- a lifetime's byte is in the leaf alone, and no apostrophe comes after it there if none did
lifetime_alone : (c : ℕ) (t : List ℕ) → is_character_closed (c ∷ t) ≡ false → is_plain_byte c ≡ true
    → (is_character_closed (leaf_from outside (c ∷ t)) ≡ false) × (begins_plain (leaf_from outside (c ∷ t)) ≡ true)
lifetime_alone c t none plain =
    let step : place_outside c t ≡ Some outside = rw (plain_is_in_word c t plain) refl in
    let whole : c ∷ t ≡ (c ∷ leaf_from outside t) ++ after_leaf outside t = ap (λ u. c ∷ u) (leaves_whole outside t) in
    rw step (false_from_ne_true (is_character_closed (c ∷ leaf_from outside t)) (λ e. let closed = ap is_character_closed whole ∙ character_more (c ∷ leaf_from outside t) (after_leaf outside t) e in cc (closed, none)), plain)

outside_unspaced : (c : ℕ) (t : List ℕ) → is_spaced (leaf_from outside (c ∷ t)) ≡ false
outside_unspaced c t = elim (cases_Bool (c == space)) [ inl is ↦ rw (eqb-true c space is) refl | inr other ↦ elim (place_outside c t) as (λ o. is_spaced (choose o (λ n. c ∷ leaf_from n t) []) ≡ false) [ None ↦ refl | Some n ↦ rw other refl ] ]

-- the same comes next in the leaf alone
same_alone : (c : ℕ) (next : Place) (t : List ℕ) → SameAhead c next t (leaf_from next t)
same_alone c next [] = record { unspaced = λ place is h. h; no_quote = λ h. h; closes = λ place h. h; word = λ place h. h; address = λ place h. h; character = λ place h. h; lifetime = λ place h plain. (h, plain) }
same_alone c next (b ∷ t) = record {
  unspaced = λ place is h. rw place (outside_unspaced b t);
  no_quote = λ h. elim (place_after next b t) as (λ o. begins_quote (choose o (λ n. b ∷ leaf_from n t) []) ≡ false) [ None ↦ refl | Some n ↦ h ];
  closes = λ place h. rw (place, h) h;
  word = λ place h. rw place (word_alone (b ∷ t) h);
  address = λ place h. rw place (address_alone (b ∷ t) h);
  character = λ place h. rw place (character_alone (b ∷ t) h);
  lifetime = λ place h plain. rw place (lifetime_alone b t h plain);
}

-- a byte that belongs to the leaf at the front belongs to it without what follows the leaf
pub kept_alone : (place : Place) (c : ℕ) (t : List ℕ) (next : Place) → place_after place c t ≡ Some next → place_after place c (leaf_from next t) ≡ Some next
kept_alone place c t next h = after_too place c t (leaf_from next t) next (same_alone c next t) h

-- the longest front is a leaf's end, if it ends outside of quotes
pub front_ends_leaf : (place : Place) (t : List ℕ) → is_outside (last_place place (leaf_from place t)) ≡ true → EndsLeaf place (leaf_from place t)
front_ends_leaf place [] h = h
front_ends_leaf place (c ∷ t) h = (elim (place_after place c t) as (λ o. place_after place c t ≡ o → is_outside (last_place place (choose o (λ next. c ∷ leaf_from next t) [])) ≡ true
    → EndsLeaf place (choose o (λ next. c ∷ leaf_from next t) [])) [
      | None ↦ λ e k. k
      | Some next ↦ λ e k. let kept = kept_alone place c t next e in (next, kept, front_ends_leaf next t (rw kept at k))
    ]) refl h

-- the first byte of a leaf ends no entry
pub leaf_no_ender : (c : ℕ) (t : List ℕ) (next : Place) → place_after beginning c t ≡ Some next → is_ender c ≡ false
leaf_no_ender c t next h = grind (arith, nat_tests)
