-- What the readers of plain and of pretty texts compute: how a document of a class is read from the front of a text.
use Rattle.std.specs.Prelude.{ℕ, zero, suc, length, ◌&&◌, not, if◌then◌else◌, Bool, true, false, List, [], ◌∷◌, ◌++◌, codes, Option, Some, None, option_map, option_and_then}
use Rattle.std.specs.Str.{is_utf8}
use Rattle.ufmt_core.specs.Document.{Document, leaf, list_of, set_of, map_of, struct_of, non_exhaustive_of, tuple_of, no_documents, no_pairs, no_fields, documents, pairs_of, fields_of}
use Rattle.ufmt_core.specs.Layout.{Frame, frame, tuple_kind, setting, inside, lead, ending, trail, next}
use Rattle.ufmt_core.specs.declared.layout.Mode.TheVariants.{Plain, Pretty}
use Rattle.ufmt_core.specs.declared.layout.Mode.{Mode}
use Rattle.ufmt_core.specs.declared.layout.Setting.{Setting}
use Rattle.ufmt_core.specs.declared.layout.Kind.TheVariants.{Brackets, Braces, Struct, Unnamed}
use Rattle.ufmt_core.specs.declared.layout.Count.{Count}
use Rattle.ufmt_core.specs.declared.layout.Count.TheVariants.{Zero, One}
use Rattle.ufmt_grammar.specs.ReadingQuoted.{read_quoted}
use Rattle.ufmt_grammar.specs.Leaves.{Class, Token, Debug, is_word_byte, Place, beginning, is_outside, place_after, has_name_bytes, ends_in_colon}
pub use Rattle.ufmt_grammar.specs.Parse.{Parse, choose, parse_map, strip}

-- the word bytes at the front of a text
abbrev pub word_of : List ℕ → List ℕ
word_of [] = []
word_of (c ∷ t) = if is_word_byte c then c ∷ word_of t else []

-- what follows the word bytes at the front
abbrev pub after_word : List ℕ → List ℕ
after_word [] = []
after_word (c ∷ t) = if is_word_byte c then after_word t else c ∷ t

-- the bytes at the front that belong to a leaf of a debug document, from this place in it on
abbrev pub leaf_from : Place → List ℕ → List ℕ
leaf_from place [] = []
leaf_from place (c ∷ t) = choose (place_after place c t) (λ next. c ∷ leaf_from next t) []

-- what follows them
abbrev pub after_leaf : Place → List ℕ → List ℕ
after_leaf place [] = []
after_leaf place (c ∷ t) = choose (place_after place c t) (λ next. after_leaf next t) (c ∷ t)

-- the place after these bytes
abbrev pub last_place : Place → List ℕ → Place
last_place place [] = place
last_place place (c ∷ t) = choose (place_after place c t) (λ next. last_place next t) place

-- the name or the leaf at the front of a text, as long as it may be; of a token document only a word
abbrev pub front_of : Class → List ℕ → List ℕ
front_of Token t = word_of t
front_of Debug t = leaf_from beginning t

-- what follows it
abbrev pub after_front : Class → List ℕ → List ℕ
after_front Token t = after_word t
after_front Debug t = after_leaf beginning t

-- whether these bytes, if there are any, are a leaf: the quotes are closed, and it is UTF-8
abbrev pub is_whole : Class → List ℕ → Bool
is_whole Token front = true
is_whole Debug front = is_outside (last_place beginning front) && is_utf8 front

-- whether such a leaf is a name
abbrev pub is_name : Class → List ℕ → Bool
is_name Token front = true
is_name Debug front = has_name_bytes front && not (ends_in_colon front)

-- this name and what follows it; None if it is no name
abbrev pub if_name : Class → List ℕ → List ℕ → Option (List ℕ × List ℕ)
if_name class [] t = None
if_name class (c ∷ front) t = if is_whole class (c ∷ front) && is_name class (c ∷ front) then Some (c ∷ front, t) else None

-- reads the longest name
abbrev pub read_name : Class → Parse (List ℕ)
read_name class t = if_name class (front_of class t) (after_front class t)

-- reads a leaf in quotes: a debug document's is no other leaf
abbrev pub read_quotes : Class → Parse (List ℕ)
read_quotes Token t = read_quoted t
read_quotes Debug t = None

-- reads a leaf that no front begins: `()`, or a quoted text or character. A debug document's leaves are all fronts
abbrev pub read_symbol : Class → Parse (List ℕ)
read_symbol class t = choose (strip (codes "()") t) (λ u. Some (codes "()", u)) (read_quotes class t)

-- reads a colon, a space and a value, and pairs the value with this key
abbrev pub read_value : {A : Type 0} → Parse Document → A → Parse (A × Document)
read_value p key t = option_and_then (λ u. parse_map (λ value. (key, value)) (p u)) (strip (codes ": ") t)

-- reads a key and its value
abbrev pub read_pair : {A : Type 0} → Parse A → Parse Document → Parse (A × Document)
read_pair key p t = option_and_then (λ x. read_value p x.0 x.1) (key t)

-- what is left of a block: its entries, and whether it ends in dots
abbrev pub Rest : Type 0 → Type 0
Rest A = List A × Bool

-- the same with this entry first
abbrev pub with_entry : {A : Type 0} → A → Rest A → Rest A
with_entry x left = (x ∷ left.0, left.1)

-- finds what follows a block that ends in dots, in a text that begins with the dots; None if no dots begin it
abbrev pub Dots : Type 0
Dots = List ℕ → Option (List ℕ)

-- only a struct ends in dots
abbrev pub no_dots : Dots
no_dots t = None

-- reads the trail of the entry `x`, and then more entries with `more`
abbrev pub read_after_entry : {A : Type 0} → Mode → Parse (Rest A) → A → Parse (Rest A)
read_after_entry mode more x t = option_and_then (λ u. parse_map (with_entry x) (more u)) (strip (trail mode) t)

-- reads an entry and its trail, and then more entries with `more`
abbrev pub read_turn : {A : Type 0} → Parse A → Mode → Parse (Rest A) → Parse (Rest A)
read_turn q mode more t = option_and_then (λ x. read_after_entry mode more x.0 x.1) (q t)

-- reads the dots and the end of a block after the lead of an entry, or else an entry, and then more with `more`
abbrev pub read_further : {A : Type 0} → Parse A → Dots → Mode → Parse (Rest A) → Parse (Rest A)
read_further q dots mode more t = choose (dots t) (λ u. Some (([], true), u)) (read_turn q mode more t)

-- reads the ending of a block, and returns no entry
abbrev pub read_end : {A : Type 0} → Frame → Setting → Count → Parse (Rest A)
read_end f s count t = option_map (λ u. (([], false), u)) (strip (ending f s count) t)

-- reads the rest of a block after `count` entries: fewer entries than the number, each with `q`, and the end
unfoldable pub read_rest : {A : Type 0} → Parse A → Dots → Frame → Setting → Count → ℕ → Parse (Rest A)
read_rest q dots f s count zero t = None
read_rest q dots f s count (suc n) t =
    choose (strip (lead f (inside s) count) t) (read_further q dots s.mode (read_rest q dots f s (next count) n)) (read_end f s count t)

-- reads the rest of a block with any number of entries; a text has no more entries than bytes
abbrev pub read_others : {A : Type 0} → Parse A → Dots → Frame → Setting → Count → Parse (Rest A)
read_others q dots f s count t = read_rest q dots f s count (suc (length t)) t

-- reads a block after its first entry `x`
abbrev pub read_after_first : {A : Type 0} → Parse A → Dots → Frame → Setting → (Rest A → Document) → A → Parse Document
read_after_first q dots f s make x t = parse_map make (read_after_entry s.mode (read_others q dots f s One) x t)

-- reads a block from its first entry on
abbrev pub read_entries : {A : Type 0} → Parse A → Dots → Frame → Setting → (Rest A → Document) → Parse Document
read_entries q dots f s make t = option_and_then (λ x. read_after_first q dots f s make x.0 x.1) (q t)

-- reads a block with entries, after its opening
abbrev pub read_block : {A : Type 0} → Parse A → Dots → Frame → Setting → (Rest A → Document) → Parse Document
read_block q dots f s make t = option_and_then (read_entries q dots f s make) (strip (lead f (inside s) Zero) t)

-- the documents that have these entries
abbrev pub list_with : Rest Document → Document
list_with left = list_of (documents left.0)

abbrev pub set_with : Rest Document → Document
set_with left = set_of (documents left.0)

abbrev pub map_with : Rest (Document × Document) → Document
map_with left = map_of (pairs_of left.0)

abbrev pub tuple_with : List ℕ → Rest Document → Document
tuple_with name left = tuple_of name (documents left.0)

abbrev pub struct_with : List ℕ → Rest (List ℕ × Document) → Document
struct_with name left = if left.1 then non_exhaustive_of name (fields_of left.0) else struct_of name (fields_of left.0)

-- the dots in place of a field, in a line of their own in pretty mode
abbrev pub dots_text : Mode → List ℕ
dots_text Plain = codes ".."
dots_text Pretty = codes "..\n"

-- the dots at the end of a struct, after the lead of a field, and what ends the struct
abbrev pub last_dots : Setting → List ℕ
last_dots s = dots_text s.mode ++ ending (frame s.mode Struct) s One

-- strips them; no struct of a token document ends so
abbrev pub strip_dots : Class → Setting → Dots
strip_dots Token s t = None
strip_dots Debug s t = strip (last_dots s) t

-- strips what follows the name of a struct that has only dots
abbrev pub strip_only_dots : Class → List ℕ → Option (List ℕ)
strip_only_dots Token t = None
strip_only_dots Debug t = strip (codes " { .. }") t

-- reads a list after its opening; `p` reads its entries
abbrev pub read_list : Setting → Parse Document → Parse Document
read_list s p t = choose (strip ((frame s.mode Brackets).closing Zero) t) (λ u. Some (list_of no_documents, u))
    (read_block p no_dots (frame s.mode Brackets) s list_with t)

-- reads a map after its first key
abbrev pub read_map : Setting → Parse Document → Document → Parse Document
read_map s p key t = option_and_then (λ x. read_after_first (read_pair p p) no_dots (frame s.mode Braces) s map_with x.0 x.1) (read_value p key t)

-- reads a set after its first entry
abbrev pub read_set : Setting → Parse Document → Document → Parse Document
read_set s p d t = read_after_first p no_dots (frame s.mode Braces) s set_with d t

-- reads a map if a colon and a space come next, or else a set
abbrev pub read_map_or_set : Setting → Parse Document → Document → Parse Document
read_map_or_set s p d t = choose (strip (codes ": ") t) (λ u. read_map s p d t) (read_set s p d t)

-- reads a set or a map with entries, after its opening
abbrev pub read_braced_entries : Setting → Parse Document → Parse Document
read_braced_entries s p t = option_and_then (λ u. option_and_then (λ x. read_map_or_set s p x.0 x.1) (p u))
    (strip (lead (frame s.mode Braces) (inside s) Zero) t)

-- reads a set or a map, after its opening
abbrev pub read_braces : Setting → Parse Document → Parse Document
read_braces s p t = choose (strip ((frame s.mode Braces).closing Zero) t) (λ u. Some (map_of no_pairs, u)) (read_braced_entries s p t)

-- reads a tuple with this name, from its first field on
abbrev pub read_tuple : Setting → Parse Document → List ℕ → Parse Document
read_tuple s p name t = read_entries p no_dots (frame s.mode (tuple_kind name)) s (tuple_with name) t

-- reads a struct with this name, from its first field on; it may end in dots
abbrev pub read_struct : Class → Setting → Parse Document → List ℕ → Parse Document
read_struct class s p name t = read_entries (read_pair (read_name class) p) (strip_dots class s) (frame s.mode Struct) s (struct_with name) t

-- reads a tuple without a name
abbrev pub read_unnamed : Setting → Parse Document → Parse Document
read_unnamed s p t = option_and_then (read_tuple s p []) (strip (lead (frame s.mode Unnamed) (inside s) Zero) t)

-- reads a document that doesn't begin with a name
abbrev pub read_without_name : Class → Setting → Parse Document → Parse Document
read_without_name class s p t =
    choose (strip (frame s.mode Brackets).opening t) (read_list s p)
    (choose (strip (frame s.mode Braces).opening t) (read_braces s p)
    (choose (read_symbol class t) (λ x. Some (leaf x.0, x.1)) (read_unnamed s p t)))

-- reads a document that begins with this name, after the name
abbrev pub read_named : Class → Setting → Parse Document → List ℕ → Parse Document
read_named class s p name t =
    choose (strip (lead (frame s.mode (tuple_kind name)) (inside s) Zero) t) (read_tuple s p name)
    (choose (strip_only_dots class t) (λ u. Some (non_exhaustive_of name no_fields, u))
    (choose (strip (lead (frame s.mode Struct) (inside s) Zero) t) (read_struct class s p name)
    (Some (leaf name, t))))

-- reads a document that begins with this leaf, which may be its name, after the leaf
abbrev pub read_after_front : Class → Setting → Parse Document → List ℕ → Parse Document
read_after_front class s p front t =
    if is_whole class front then (if is_name class front then read_named class s p front t else Some (leaf front, t)) else None

-- reads the text `t`, which is the longest leaf at its front, or nothing, and then `u`
abbrev pub read_by_front : Class → Setting → Parse Document → List ℕ → List ℕ → List ℕ → Option (Document × List ℕ)
read_by_front class s p t [] u = read_without_name class s p t
read_by_front class s p t (c ∷ front) u = read_after_front class s p (c ∷ front) u

-- reads a document; `p` reads the entries of its block
abbrev pub read_with : Class → Setting → Parse Document → Parse Document
read_with class s p t = read_by_front class s p t (front_of class t) (after_front class t)

-- reads a document at this mode and depth; its blocks with entries are nested at most as deep as the number
unfoldable pub read : Class → Setting → ℕ → Parse Document
read class s zero t = read_with class s (λ u. None) t
read class s (suc n) t = read_with class s (read class (inside s) n) t

-- the value that was read, if nothing follows it
abbrev pub if_all : {A : Type 0} → A → List ℕ → Option A
if_all x [] = Some x
if_all x (c ∷ t) = None

-- reads a whole text: the normal form of the documents of the class that have this text in this mode, or None if there are none
abbrev pub read_text : Class → Mode → List ℕ → Option Document
read_text class mode t = option_and_then (λ x. if_all x.0 x.1) (read class (setting mode 0) 255 t)
