-- Names and leaves of each class: how they begin, that each is read, and that only they are read as names and leaves.
use Rattle.std.proofs.Common.{◌≡◌, ◌≢◌, inl, inr, refl, ap, sym, ◌∙◌, subst, ℕ, ◌==◌, ◌&&◌, not, true, false, List, [], ◌∷◌, ◌++◌, Option, Some, None, codes, append_assoc, eqb-true, arith}
use Rattle.std.proofs.lemmas.Bool.{cases_Bool, false_from_ne_true, not-true}
use Rattle.std.specs.Prelude.{⊤}
use Rattle.std.specs.Str.{is_utf8}
use Rattle.std.proofs.lemmas.Str.{IsUtf8-from_ascii, is_utf8-from_IsUtf8}
use Rattle.std.proofs.lemmas.Str.Ascii.{IsAscii-cons, IsAscii-nil}
use Rattle.ufmt_core.specs.Bytes.{apostrophe, closing_brace, closing_parenthesis, colon, opening_brace, opening_bracket, opening_parenthesis, quotation_mark, space}
use Rattle.ufmt_core.specs.Document.{Document, leaf}
use Rattle.ufmt_core.specs.Layout.{inside, brace_space, new_line}
use Rattle.ufmt_core.specs.Quoted.{IsQuoted, escaped_all}
use Rattle.ufmt_core.specs.declared.layout.Setting.{Setting}
use Rattle.ufmt_grammar.specs.Leaves.{Class, Token, Debug, is_word_byte, IsWordOrEmpty, IsWord, IsSymbol, IsFollower, IsDebugFollower, IsDebugLeaf, is_word_closed, is_address_closed, beginning, outside, in_parentheses, is_outside, begins_with, is_spaced, has_name_bytes, ends_in_colon, IsTokenLeaf, IsName, IsLeaf, MayFollow, is_ender}
use Rattle.ufmt_grammar.specs.Reading.{Parse, choose, strip, strip_only_dots, front_of, after_front, leaf_from, last_place, is_whole, is_name, if_name, read_name, read_symbol, read_without_name, read_named, read_unnamed, read_with, word_of}
use Rattle.ufmt_grammar.specs.ReadingQuoted.{read_quoted}
use Rattle.ufmt_grammar.proofs.Parsing.{chosen_from, same_parts, strip_found}
use Rattle.ufmt_grammar.proofs.QuotedComplete.{read_quoted-complete}
use Rattle.ufmt_grammar.proofs.QuotedSound.{read_quoted-sound}
use Rattle.ufmt_grammar.proofs.ReadingWords.{StopsWord, each_closer, each_ender, no_ender, ender_closes, follower_stops, words_whole, word_of_bytes, word_of-append, after_word-append, word_bytes}
use Rattle.ufmt_grammar.proofs.DebugLeaves.{StopsLeaf, both, follower_stops_leaf, follower_unspaced, leaf_from-append, after_leaf-append, leaves_whole, last_is_outside, front_ends_leaf, leaf_no_ender, some_begun}

-- the text has a first byte, which is no comma and no closing bracket
pub record Begins (text : List ℕ) : Type 0 where
  pub first : ℕ
  pub tail : List ℕ
  pub is : text ≡ first ∷ tail
  pub no_ender : is_ender first ≡ false

pub Begins-append : {a : List ℕ} → Begins a → (b : List ℕ) → Begins (a ++ b)
Begins-append h b = record { first = h.first; tail = h.tail ++ b; is = ap (λ t. t ++ b) h.is; no_ender = h.no_ender }

word_begins : (w : List ℕ) → IsWord w → Begins w
word_begins [] h = absurd h
word_begins (c ∷ w) h = record { first = c; tail = w; is = refl; no_ender = no_ender is_word_byte refl refl refl refl c h.0 }

token_begins : (text : List ℕ) → IsTokenLeaf text → Begins text
token_begins text h = elim h.shape [
  | inl w ↦ word_begins text w
  | inr (inl e) ↦ record { first = opening_parenthesis; tail = codes ")"; is = e; no_ender = refl }
  | inr (inr (inl of_text)) ↦ record { first = quotation_mark; tail = escaped_all quotation_mark of_text.0 ++ (quotation_mark ∷ []); is = of_text.2; no_ender = refl }
  | inr (inr (inr of_char)) ↦ record { first = apostrophe; tail = escaped_all apostrophe (of_char.0 ∷ []) ++ (apostrophe ∷ []); is = of_char.2; no_ender = refl }
]

debug_begins : (text : List ℕ) → IsDebugLeaf text → Begins text
debug_begins [] h = absurd (h.some refl)
debug_begins (c ∷ text) h = record { first = c; tail = text; is = refl; no_ender = leaf_no_ender c text h.pieces.0 h.pieces.1 }

pub name_begins : (class : Class) (w : List ℕ) → IsName class w → Begins w
name_begins Token w h = word_begins w h
name_begins Debug w h = debug_begins w h.whole

pub leaf_begins : (class : Class) (text : List ℕ) → IsLeaf class text → Begins text
leaf_begins Token text h = token_begins text h
leaf_begins Debug text h = debug_begins text h

-- so it begins with no given one of these
pub begins_no : {t : List ℕ} → Begins t → (c : ℕ) → is_ender c ≡ true → begins_with c t ≡ false
begins_no {t} b c ends = ap (begins_with c) b.is ∙ false_from_ne_true (b.first == c) (λ e. let none = subst (λ x. is_ender x ≡ false) (eqb-true b.first c e) b.no_ender in cc (ends, none))

pub name_some : (class : Class) → IsName class [] → ⊥
name_some Token h = h
name_some Debug h = h.whole.some refl

pub name_leaf : (class : Class) (w : List ℕ) → IsName class w → IsLeaf class w
name_leaf Token w h = record { shape = inl h }
name_leaf Debug w h = h.whole

pub unit_leaf : (class : Class) → IsLeaf class (codes "()")
unit_leaf Token = record { shape = inr (inl refl) }
unit_leaf Debug = record { some = λ none. absurd (cc); pieces = (in_parentheses, refl, (outside, refl, refl)); utf8 = is_utf8-from_IsUtf8 (codes "()") (IsUtf8-from_ascii (codes "()") (IsAscii-cons 40 (codes ")") (omega arith) (IsAscii-cons 41 [] (omega arith) IsAscii-nil))) }

-- ---- what may follow

pub ender_follows : (class : Class) (c : ℕ) (u : List ℕ) → is_ender c ≡ true → MayFollow class (c ∷ u)
ender_follows Token c [] h = ender_closes c h
ender_follows Token c (b ∷ u) h = inl (ender_closes c h)
ender_follows Debug c [] h = h
ender_follows Debug c (b ∷ u) h = inl h

-- a colon and a space, before a text that begins with no closing bracket
pub colon_follows : (class : Class) (u : List ℕ) → Begins u → MayFollow class (colon ∷ space ∷ u)
colon_follows Token u begins = inl refl
colon_follows Debug u begins = inr (inl (refl, refl, begins_no begins closing_brace refl))

pub brace_follows : (class : Class) (u : List ℕ) → MayFollow class (space ∷ closing_brace ∷ u)
brace_follows Token u = inr (refl, refl)
brace_follows Debug u = inr (inr (refl, refl))

pub nothing_follows : (class : Class) → MayFollow class []
nothing_follows Token = tt
nothing_follows Debug = tt

-- what may follow does not begin with the parenthesis of a tuple
pub follower_no_tuple : (class : Class) (u w : List ℕ) → MayFollow class u → strip (opening_parenthesis ∷ w) u ≡ None
follower_no_tuple Token [] w h = refl
follower_no_tuple Token (c ∷ []) w h = each_closer (λ c. strip (opening_parenthesis ∷ w) (c ∷ []) ≡ None) refl refl refl refl refl c h
follower_no_tuple Token (c ∷ b ∷ u) w (inl h) = each_closer (λ c. strip (opening_parenthesis ∷ w) (c ∷ b ∷ u) ≡ None) refl refl refl refl refl c h
follower_no_tuple Token (c ∷ b ∷ u) w (inr h) = rw h.0 refl
follower_no_tuple Debug [] w h = refl
follower_no_tuple Debug (c ∷ []) w h = each_ender (λ c. strip (opening_parenthesis ∷ w) (c ∷ []) ≡ None) refl refl refl refl c h
follower_no_tuple Debug (c ∷ b ∷ u) w (inl h) = each_ender (λ c. strip (opening_parenthesis ∷ w) (c ∷ b ∷ u) ≡ None) refl refl refl refl c h
follower_no_tuple Debug (c ∷ b ∷ u) w (inr (inl h)) = rw h.0 refl
follower_no_tuple Debug (c ∷ b ∷ u) w (inr (inr h)) = rw h.0 refl

-- what may follow does not begin with the space and the brace of a struct
pub follower_no_struct : (class : Class) (u w : List ℕ) → MayFollow class u → strip (space ∷ opening_brace ∷ w) u ≡ None
follower_no_struct Token [] w h = refl
follower_no_struct Token (c ∷ []) w h = each_closer (λ c. strip (space ∷ opening_brace ∷ w) (c ∷ []) ≡ None) refl refl refl refl refl c h
follower_no_struct Token (c ∷ b ∷ u) w (inl h) = each_closer (λ c. strip (space ∷ opening_brace ∷ w) (c ∷ b ∷ u) ≡ None) refl refl refl refl refl c h
follower_no_struct Token (c ∷ b ∷ u) w (inr h) = rw (h.0, h.1) refl
follower_no_struct Debug [] w h = refl
follower_no_struct Debug (c ∷ []) w h = each_ender (λ c. strip (space ∷ opening_brace ∷ w) (c ∷ []) ≡ None) refl refl refl refl c h
follower_no_struct Debug (c ∷ b ∷ u) w (inl h) = each_ender (λ c. strip (space ∷ opening_brace ∷ w) (c ∷ b ∷ u) ≡ None) refl refl refl refl c h
follower_no_struct Debug (c ∷ b ∷ u) w (inr (inl h)) = rw h.0 refl
follower_no_struct Debug (c ∷ b ∷ u) w (inr (inr h)) = rw (h.0, h.1) refl

-- nor does it with the dots of a struct that has only dots
pub follower_no_only_dots : (class : Class) (u : List ℕ) → MayFollow class u → strip_only_dots class u ≡ None
follower_no_only_dots Token u h = refl
follower_no_only_dots Debug u h = follower_no_struct Debug u (codes " .. }") h

-- ---- the longest name or leaf at the front of a text

-- the text does not begin with a byte that a name before it would have
abbrev pub Stops : Class → List ℕ → Type 0
Stops Token u = StopsWord u
Stops Debug u = StopsLeaf u

pub follower_ends_front : (class : Class) (u : List ℕ) → MayFollow class u → Stops class u
follower_ends_front Token u h = follower_stops u h
follower_ends_front Debug u h = follower_stops_leaf u h

-- an opening parenthesis that isn't closed at once and a space stop a name
pub stops_at_parenthesis : (class : Class) (u : List ℕ) → Begins u → Stops class (opening_parenthesis ∷ u)
stops_at_parenthesis Token u begins = refl
stops_at_parenthesis Debug u begins = rw (begins_no begins closing_parenthesis refl) (refl, refl)

pub stops_at_space : (class : Class) (u : List ℕ) → Stops class (space ∷ u)
stops_at_space Token u = refl
stops_at_space Debug u = (refl, refl)

pub fronts_whole : (class : Class) (t : List ℕ) → t ≡ front_of class t ++ after_front class t
fronts_whole Token t = words_whole t
fronts_whole Debug t = leaves_whole beginning t

-- bytes that are the longest front before this text
pub record IsFront (class : Class) (w u : List ℕ) : Type 0 where
  pub front : front_of class (w ++ u) ≡ w
  pub after : after_front class (w ++ u) ≡ u
  pub whole : is_whole class w ≡ true

word_fronts : (w u : List ℕ) → IsWord w → StopsWord u → IsFront Token w u
word_fronts w u h stops = record {
  front = word_of-append w u (word_bytes w h) stops;
  after = after_word-append w u (word_bytes w h) stops;
  whole = refl;
}

-- a leaf's bytes, if no colon at its end is before a space
pub text_fronts : (w u : List ℕ) → IsDebugLeaf w → StopsLeaf u → (ends_in_colon w ≡ true → is_spaced u ≡ false) → IsFront Debug w u
text_fronts w u h stops seam = record {
  front = leaf_from-append beginning w u (some_begun beginning w h.some) h.pieces stops seam;
  after = after_leaf-append beginning w u (some_begun beginning w h.some) h.pieces stops seam;
  whole = rw (last_is_outside beginning w h.pieces, h.utf8) refl;
}

pub name_fronts : (class : Class) (w u : List ℕ) → IsName class w → Stops class u → IsFront class w u
name_fronts Token w u h stops = word_fronts w u h stops
name_fronts Debug w u h stops = text_fronts w u h.whole stops (λ ends. absurd (cc (ends, h.ends)))

name_is_name : (class : Class) (w : List ℕ) → IsName class w → is_name class w ≡ true
name_is_name Token w h = refl
name_is_name Debug w h = rw (h.bytes, h.ends) refl

-- the front of a text, if it is whole, is a leaf, and a name if it is one
pub record IsFrontOf (class : Class) (w : List ℕ) : Type 0 where
  pub leaf : w ≢ [] → is_whole class w ≡ true → IsLeaf class w
  pub name : w ≢ [] → is_whole class w ≡ true → is_name class w ≡ true → IsName class w

bytes_are_word : (w : List ℕ) → IsWordOrEmpty w → w ≢ [] → IsWord w
bytes_are_word [] h some = absurd (some refl)
bytes_are_word (c ∷ w) h some = h

pub front_is : (class : Class) (t : List ℕ) → IsFrontOf class (front_of class t)
front_is Token t = record {
  leaf = λ some whole. record { shape = inl (bytes_are_word (word_of t) (word_of_bytes t) some) };
  name = λ some whole name. bytes_are_word (word_of t) (word_of_bytes t) some;
}
front_is Debug t = record {
  leaf = λ some whole. text some whole;
  name = λ some whole name.
      let parts = both (has_name_bytes front) (not (ends_in_colon front)) name in
      record { whole = text some whole; bytes = parts.0; ends = not-true (ends_in_colon front) parts.1 };
}
  where
    front : List ℕ
    front = leaf_from beginning t

    text : front ≢ [] → is_whole Debug front ≡ true → IsDebugLeaf front
    text some whole =
        let parts = both (is_outside (last_place beginning front)) (is_utf8 front) whole in
        record { some = some; pieces = front_ends_leaf beginning t parts.0; utf8 = parts.1 }

pub nothing_is_whole : (class : Class) → is_whole class [] ≡ true
nothing_is_whole Token = refl
nothing_is_whole Debug = is_utf8-from_IsUtf8 [] (IsUtf8-from_ascii [] IsAscii-nil)

-- ---- reading

if_name_complete : (class : Class) (w u : List ℕ) → IsName class w → if_name class w u ≡ Some (w, u)
if_name_complete class [] u h = absurd (name_some class h)
if_name_complete class (c ∷ w) u h = rw ((name_fronts class (c ∷ w) [] h (follower_ends_front class [] (nothing_follows class))).whole, name_is_name class (c ∷ w) h) refl

pub read_name_complete : (class : Class) (w u : List ℕ) → IsName class w → Stops class u → read_name class (w ++ u) ≡ Some (w, u)
read_name_complete class w u h stops =
    let fronts = name_fronts class w u h stops in
    rw (fronts.front, fronts.after) (if_name_complete class w u h)

if_name_sound : (class : Class) (a b w u : List ℕ) → IsFrontOf class a → if_name class a b ≡ Some (w, u) → IsName class w × (a ++ b ≡ w ++ u)
if_name_sound class [] b w u front h = absurd (cc)
if_name_sound class (c ∷ a) b w u front h = elim (cases_Bool (is_whole class (c ∷ a) && is_name class (c ∷ a))) [
  | inl e ↦
      let is = both (is_whole class (c ∷ a)) (is_name class (c ∷ a)) e in
      let parts = same_parts {A = List ℕ} {B = List ℕ} (c ∷ a, b) (w, u) (rw e at h) in
      (subst (IsName class) parts.0 (front.name (λ none. absurd (cc)) is.0 is.1), cc)
  | inr e ↦ let none = rw e at h in absurd (cc)
]

pub read_name_sound : (class : Class) (t w u : List ℕ) → read_name class t ≡ Some (w, u) → IsName class w × (t ≡ w ++ u)
read_name_sound class t w u h =
    let found = if_name_sound class (front_of class t) (after_front class t) w u (front_is class t) h in
    (found.0, fronts_whole class t ∙ found.1)

-- a concrete name is shown to be one by computation
pub IsName-from : (class : Class) (w : List ℕ) → read_name class w ≡ Some (w, []) → IsName class w
IsName-from class w h = (read_name_sound class w w [] h).0

-- a text that begins with a name is read by `read_named`
at_name : (class : Class) (s : Setting) (p : Parse Document) (w u : List ℕ) → IsName class w → Stops class u
    → read_with class s p (w ++ u) ≡ read_named class s p w u
at_name class s p [] u h stops = absurd (name_some class h)
at_name class s p (c ∷ w) u h stops =
    let fronts = name_fronts class (c ∷ w) u h stops in
    rw (fronts.front, fronts.after) (rw (fronts.whole, name_is_name class (c ∷ w) h) refl)

-- the same holds of a text in two parts
pub name_leads : (class : Class) (s : Setting) (p : Parse Document) (w t u : List ℕ) → IsName class w → Stops class (t ++ u)
    → read_with class s p ((w ++ t) ++ u) ≡ read_named class s p w (t ++ u)
name_leads class s p w t u h stops = ap (read_with class s p) (append_assoc w t u) ∙ at_name class s p w (t ++ u) h stops

-- the text after a bracket isn't that of a word in parentheses or an address at a leaf's start
abbrev pub IsNoAddress : Class → List ℕ → Type 0
IsNoAddress Token t = ⊤
IsNoAddress Debug t = is_address_closed t ≡ false

abbrev pub IsNoWord : Class → List ℕ → Type 0
IsNoWord Token t = ⊤
IsNoWord Debug t = is_word_closed t ≡ false

-- a text that begins with an opening bracket begins with no name
pub at_bracket : (class : Class) (s : Setting) (p : Parse Document) (u : List ℕ) → IsNoAddress class u
    → read_with class s p (opening_bracket ∷ u) ≡ read_without_name class s p (opening_bracket ∷ u)
at_bracket Token s p u none = refl
at_bracket Debug s p u none = rw none refl

pub at_brace : (class : Class) (s : Setting) (p : Parse Document) (u : List ℕ) → read_with class s p (opening_brace ∷ u) ≡ read_without_name class s p (opening_brace ∷ u)
at_brace Token s p u = refl
at_brace Debug s p u = refl

pub at_parenthesis : (class : Class) (s : Setting) (p : Parse Document) (u : List ℕ) → Begins u → IsNoWord class u
    → read_with class s p (opening_parenthesis ∷ u) ≡ read_without_name class s p (opening_parenthesis ∷ u)
at_parenthesis Token s p u begins none = refl
at_parenthesis Debug s p u begins none = rw (none, begins_no begins closing_parenthesis refl) refl

-- a name before what may follow is read as a leaf
only_name : (class : Class) (s : Setting) (p : Parse Document) (w u : List ℕ) → w ≢ [] → MayFollow class u → read_named class s p w u ≡ Some (leaf w, u)
only_name class s p [] u some follows = absurd (some refl)
only_name class s p (c ∷ w) u some follows = rw (
  follower_no_tuple class u (new_line (inside s).mode (inside s).depth) follows,
  follower_no_only_dots class u follows,
  follower_no_struct class u (brace_space s.mode ++ new_line (inside s).mode (inside s).depth) follows,
) refl

-- a symbol of a token document is read, whatever follows it
pub read_symbol_complete : (text u : List ℕ) → IsSymbol text → read_symbol Token (text ++ u) ≡ Some (text, u)
read_symbol_complete text u (inl unit) = rw unit refl
read_symbol_complete text u (inr quoted) = let reads = read_quoted-complete text u quoted in elim quoted [
  | inl of_text ↦ rw of_text.2 (ap (λ t. read_quoted (t ++ u)) (sym of_text.2) ∙ reads ∙ ap (λ t. Some (t, u)) of_text.2)
  | inr of_char ↦ rw of_char.2 (ap (λ t. read_quoted (t ++ u)) (sym of_char.2) ∙ reads ∙ ap (λ t. Some (t, u)) of_char.2)
]

-- reading a text that begins with a symbol tries `read_symbol` first
symbol_first : (s : Setting) (p : Parse Document) (text u : List ℕ) → IsSymbol text
    → read_with Token s p (text ++ u) ≡ choose (read_symbol Token (text ++ u)) (λ x. Some (leaf x.0, x.1)) (read_unnamed s p (text ++ u))
symbol_first s p text u (inl unit) = rw unit refl
symbol_first s p text u (inr (inl of_text)) = rw of_text.2 refl
symbol_first s p text u (inr (inr of_char)) = rw of_char.2 refl

token_complete : (s : Setting) (p : Parse Document) (text u : List ℕ) → IsTokenLeaf text → IsFollower u → read_with Token s p (text ++ u) ≡ Some (leaf text, u)
token_complete s p text u h follows = elim h.shape [
  | inl w ↦ at_name Token s p text u w (follower_stops u follows) ∙ only_name Token s p text u (λ none. absurd (subst IsWord none w)) follows
  | inr symbol ↦ symbol_first s p text u symbol ∙ ap (λ o. choose o (λ x. Some (leaf x.0, x.1)) (read_unnamed s p (text ++ u))) (read_symbol_complete text u symbol)
]

debug_complete : (s : Setting) (p : Parse Document) (text u : List ℕ) → IsDebugLeaf text → IsDebugFollower u
    → read_with Debug s p (text ++ u) ≡ Some (leaf text, u)
debug_complete s p [] u h follows = absurd (h.some refl)
debug_complete s p (c ∷ text) u h follows =
    let fronts = text_fronts (c ∷ text) u h (follower_stops_leaf u follows) (λ ends. follower_unspaced u follows) in
    rw (fronts.front, fronts.after) (rw fronts.whole (elim (cases_Bool (is_name Debug (c ∷ text))) [ inl name ↦ rw name (only_name Debug s p (c ∷ text) u h.some follows) | inr other ↦ rw other refl ]))

pub leaf_complete : (class : Class) (s : Setting) (p : Parse Document) (text u : List ℕ) → IsLeaf class text → MayFollow class u
    → read_with class s p (text ++ u) ≡ Some (leaf text, u)
leaf_complete Token s p text u h follows = token_complete s p text u h follows
leaf_complete Debug s p text u h follows = debug_complete s p text u h follows

-- an opening parenthesis before an entry is not read as a symbol
pub no_symbol : (class : Class) (t : List ℕ) → strip (codes ")") t ≡ None → read_symbol class (opening_parenthesis ∷ t) ≡ None
unfolding read_quoted
no_symbol Token t h = rw h refl
no_symbol Debug t h = rw h refl

pub read_symbol_sound : (t text u : List ℕ) → read_symbol Token t ≡ Some (text, u) → IsSymbol text × (t ≡ text ++ u)
read_symbol_sound t text u h = elim (chosen_from {B = Option (List ℕ × List ℕ)} (strip (codes "()") t) (λ v. Some (codes "()", v))
    (read_quoted t) (Some (text, u)) h) [
      | inl unit ↦ at_unit unit.0 unit.1 unit.2
      | inr quoted ↦ at_quote (read_quoted-sound t text u quoted.1)
    ]
  where
    at_unit : (v : List ℕ) → strip (codes "()") t ≡ Some v → ◌≡◌ {A = Option (List ℕ × List ℕ)} (Some (codes "()", v)) (Some (text, u))
        → IsSymbol text × (t ≡ text ++ u)
    at_unit v stripped is =
        let parts = same_parts {A = List ℕ} {B = List ℕ} (codes "()", v) (text, u) is in
        (inl (sym parts.0), strip_found (codes "()") t v stripped ∙ ap (λ w. codes "()" ++ w) parts.1 ∙ ap (λ w. w ++ u) parts.0)

    at_quote : IsQuoted text × (t ≡ text ++ u) → IsSymbol text × (t ≡ text ++ u)
    at_quote quoted = (inr quoted.0, quoted.1)

-- what is read as a symbol is a leaf
pub symbol_is_leaf : (class : Class) (t text u : List ℕ) → read_symbol class t ≡ Some (text, u) → IsLeaf class text × (t ≡ text ++ u)
symbol_is_leaf Token t text u h =
    let found = read_symbol_sound t text u h in
    (record { shape = inr found.0 }, found.1)
symbol_is_leaf Debug t text u h = elim (chosen_from {B = Option (List ℕ × List ℕ)} (strip (codes "()") t) (λ v. Some (codes "()", v)) None (Some (text, u)) h) [
  | inl unit ↦
      let parts = same_parts {A = List ℕ} {B = List ℕ} (codes "()", unit.0) (text, u) unit.2 in
      (subst IsDebugLeaf parts.0 (unit_leaf Debug), strip_found (codes "()") t unit.0 unit.1 ∙ ap (λ w. codes "()" ++ w) parts.1 ∙ ap (λ w. w ++ u) parts.0)
  | inr none ↦ absurd (cc)
]
