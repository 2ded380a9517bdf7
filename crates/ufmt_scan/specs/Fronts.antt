-- The document at the front of a text, and what a caller learns of it without building it.
use Rattle.std.specs.Prelude.{◌≡◌, ◌≤◌, ℕ, not, Bool, true, false, List, [], ◌∷◌, codes, length, drop, is_some, Option, Some}
use Rattle.ufmt_core.specs.Document.{Document}
use Rattle.ufmt_core.specs.Layout.{next, setting}
use Rattle.ufmt_core.specs.declared.layout.Count.{Count}
use Rattle.ufmt_core.specs.declared.layout.Count.TheVariants.{Zero, One}
use Rattle.ufmt_core.specs.declared.layout.Mode.{Mode}
use Rattle.ufmt_grammar.specs.declared.class.Class.{Class}
use Rattle.ufmt_grammar.specs.Reading.{choose, read, read_name, strip}
use Rattle.ufmt_scan.specs.declared.text.FrontText.{FrontText}
use Rattle.ufmt_scan.specs.Scan.{TextEvent, events_of, Leaf, Empty, OnlyDots, Open}

-- whether a block with entries opens
abbrev pub opened_by : Bool → TextEvent → Bool
opened_by before (Open kind name) = true
opened_by before event = before

-- whether one does in these events, or did before them
abbrev pub opened_after : Bool → List TextEvent → Bool
opened_after before [] = before
opened_after before (e ∷ es) = opened_after (opened_by before e) es

-- whether a block begins, with entries or without
abbrev pub begun_by : Bool → TextEvent → Bool
begun_by before (Open kind name) = true
begun_by before (Empty kind) = true
begun_by before (OnlyDots name) = true
begun_by before event = before

-- whether one does in these events, or did before them
abbrev pub begun_after : Bool → List TextEvent → Bool
begun_after before [] = before
begun_after before (e ∷ es) = begun_after (begun_by before e) es

-- a leaf, or a block without entries, is one leaf more
abbrev pub leaves_with : Count → TextEvent → Count
leaves_with count (Leaf text) = next count
leaves_with count (Empty kind) = next count
leaves_with count (OnlyDots name) = next count
leaves_with count event = count

-- how many leaves there are after these events
abbrev pub leaves_after : Count → List TextEvent → Count
leaves_after count [] = count
leaves_after count (e ∷ es) = leaves_after (leaves_with count e) es

abbrev pub is_one : Count → Bool
is_one One = true
is_one count = false

-- whether the document is a block with entries
abbrev pub has_entries : Document → Bool
has_entries d = opened_after false (events_of d)

-- whether no block is in it: it is a leaf
abbrev pub is_leaf : Document → Bool
is_leaf d = not (begun_after false (events_of d))

-- whether it has one leaf only; a block in it without entries is one, and a field's name is none
abbrev pub has_one_leaf : Document → Bool
has_one_leaf d = is_one (leaves_after Zero (events_of d))

-- reads the document of the class at the front of a text, from depth 0 on
abbrev pub read_front : Class → Mode → List ℕ → Option (Document × List ℕ)
read_front class mode t = read class (setting mode 0) 255 t

-- this document is at the front of the text, and its text ends there
pub record IsFront (class : Class) (mode : Mode) (t : List ℕ) (front : FrontText) : Type 0 where
  pub document : Document
  pub within : front.len ≤ length t
  pub is_read : read_front class mode t ≡ Some (document, drop front.len t)
  pub entries : front.has_entries ≡ has_entries document
  pub leaf : front.has_one_leaf ≡ has_one_leaf document
  pub is_leaf : front.is_leaf ≡ is_leaf document

-- a field's name, a colon and a space are at the front of a text
abbrev pub begins_with_field : Class → List ℕ → Bool
begins_with_field class t = choose (read_name class t) (λ x. is_some (strip (codes ": ") x.1)) false
