-- The leaf at the front of a text, as the scanner splits it off.
use Rattle.std.specs.Prelude.{◌≡◌, ℕ, ◌==◌, ◌&&◌, ◌||◌, Bool, true, false, List, [], ◌∷◌, ◌++◌, Option, None, MatchOption, ⊤}
use Rattle.ufmt_core.specs.Bytes.{opening_bracket, opening_parenthesis}
use Rattle.ufmt_grammar.specs.declared.class.Class.{Class}
use Rattle.ufmt_grammar.specs.Leaves.{Place, beginning, between, is_outside, is_address_closed, is_name_byte, is_plain_byte, is_word_closed, place_outside, has_name_bytes, is_quote}
use Rattle.ufmt_grammar.specs.Reading.{front_of, after_front, is_whole, is_name, leaf_from, after_leaf, last_place}
use Rattle.ufmt_scan.specs.declared.front.Front.{Front}

-- the longest name or leaf at the front, and what follows it
pub record IsSplit (class : Class) (t : List ℕ) (front : Front) : Type 0 where
  pub text : front.text.now ≡ front_of class t
  pub rest : front.rest.now ≡ after_front class t
  pub name : front.is_name ≡ is_name class (front_of class t)
  pub whole : is_whole class (front_of class t) ≡ true

-- the front is split off, or it is no leaf
abbrev pub SplitsFront : Class → List ℕ → Option Front → Type 0
SplitsFront class t outcome = MatchOption outcome (is_whole class (front_of class t) ≡ false) (λ front. IsSplit class t front)

-- bytes of a leaf of a debug document were passed, from one place in it to another; the flag says whether a name may have them
pub record Passes (place : Place) (t : List ℕ) (next : Place) (rest : List ℕ) (named : Bool) : Type 0 where
  pub bytes : List ℕ
  pub whole : t ≡ bytes ++ rest
  pub front : leaf_from place t ≡ bytes ++ leaf_from next rest
  pub after : after_leaf place t ≡ after_leaf next rest
  pub last : is_outside (last_place place (leaf_from place t)) ≡ is_outside (last_place next (leaf_from next rest))
  pub has : has_name_bytes bytes ≡ named

-- quotes are not closed in the leaf that this place is in
pub record NeverCloses (place : Place) (t : List ℕ) : Type 0 where
  pub last : is_outside (last_place place (leaf_from place t)) ≡ false

-- the text begins with no byte that is in a word, whatever follows
abbrev pub StopsWord : List ℕ → Type 0
StopsWord [] = ⊤
StopsWord (c ∷ t) = is_plain_byte c ≡ false

-- some bytes were passed, and these quotes are still open
pub record StaysBetween (quote : ℕ) (t rest : List ℕ) : Type 0 where
  pub named : Bool
  pub passes : Passes (between quote) t (between quote) rest named

-- a name could begin here
abbrev pub begins_name : List ℕ → Bool
begins_name [] = false
begins_name (c ∷ t) = is_name_byte c

-- the leaf begins with a word in parentheses, or an address in brackets and a colon
abbrev pub is_started : List ℕ → Bool
is_started [] = false
is_started (c ∷ t) = c == opening_parenthesis && is_word_closed t || c == opening_bracket && is_address_closed t

-- no byte of a leaf is at the front, and no quote
abbrev pub EndsAt : List ℕ → Type 0
EndsAt [] = ⊤
EndsAt (c ∷ t) = (place_outside c t ≡ None) × (is_quote c ≡ false)

-- the leaf at the front ends here
pub record EndsLeaf (t rest : List ℕ) (named : Bool) : Type 0 where
  pub place : Place
  pub passes : Passes beginning t place rest named
  pub closed : is_outside place ≡ true
  pub none : leaf_from place rest ≡ []
  pub all : after_leaf place rest ≡ rest
