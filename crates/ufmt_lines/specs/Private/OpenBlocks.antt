-- What is known of the blocks that are open where a try stops, and where the entries of a block in a plain text begin.
use Rattle.std.specs.Prelude.{◌≡◌, ◌≤◌, ◌+◌, ◌==◌, ◌&&◌, ◌||◌, not, if◌then◌else◌, nat_lt, ℕ, zero, suc, Bool, true, false, List, [], ◌∷◌, ◌++◌, codes, drop, slice_index_or, is_some, Some, None, ⊤}
use Rattle.ufmt.specs.Bytes.{colon, comma, opening_brace, space}
use Rattle.ufmt.specs.Document.{Document, nest}
use Rattle.ufmt.specs.Layout.{plain_text}
use Rattle.ufmt.specs.Leaves.{begins_with, is_name_byte, is_opening}
use Rattle.ufmt.specs.Reading.{strip}
use Rattle.ufmt.specs.Token.{IsBuilt, MayFollow}
use Rattle.ufmt_core.specs.declared.layout.Mode.TheVariants.{Pretty}
use Rattle.ufmt_grammar.specs.declared.class.Class.TheVariants.{Debug}
use Rattle.ufmt_lines.specs.declared.run.open_blocks.Barren.{Barren}
use Rattle.ufmt_lines.specs.declared.run.open_blocks.Tries.{Tries}
use Rattle.ufmt_values.specs.Unclosed.{is_closing}
use Rattle.ufmt_values.specs.Values.{before_bracket, value_from}

-- ---- entries

-- a comma or a colon, and then a space
abbrev pub is_separated : List ℕ → Bool
is_separated [] = false
is_separated (c ∷ t) = (c == comma || c == colon) && begins_with space t

-- at most so many entries, keys, fields and values of a block, from the first of these on: each is a document, and the next one follows it after a comma or a colon and a space
abbrev pub Entries : ℕ → List ℕ → Type 0
Entries zero t = ⊥
Entries (suc n) t = (d : Document) × (u : List ℕ) × (t ≡ plain_text d ++ u) × IsBuilt Debug d × (nest d ≤ 255) × MayFollow Debug u × (is_separated u ≡ true → Entries n (drop 2 u))

abbrev pub AreEntries : List ℕ → Type 0
AreEntries t = (n : ℕ) × Entries n t

-- if a value begins at `start`, an entry of it does at `at`
abbrev pub IsReached : List ℕ → ℕ → ℕ → Type 0
IsReached text start at = (d : Document) (u : List ℕ) → value_from Pretty (drop start text) ≡ Some (d, u) → AreEntries (drop at text)

-- where the first entry of a value begins: after its bracket, and after a space in the braces of a struct
abbrev pub first_entry : List ℕ → ℕ
first_entry t =
    if (slice_index_or t (before_bracket t) 0 == opening_brace) && nat_lt 0 (before_bracket t) then before_bracket t + 2 else before_bracket t + 1

-- ---- how a block with entries begins

-- no bracket closes right after these bytes of a name
abbrev pub has_entry : List ℕ → Bool
has_entry [] = true
has_entry (c ∷ t) = if is_name_byte c then has_entry t else not (is_closing c)

-- a brace comes, and not only dots in it
abbrev pub begins_fields : List ℕ → Bool
begins_fields [] = false
begins_fields (c ∷ t) = c == opening_brace && not (is_some (strip (codes " .. }") t))

-- a bracket comes, with a name or without, that isn't one of a leaf. `named` says that bytes of a name come before, and no colon right before
abbrev pub begins_block : Bool → List ℕ → Bool
begins_block named [] = false
begins_block named (c ∷ t) = if is_opening c then has_entry t else if c == space then named && begins_fields t else if is_name_byte c then begins_block (not (c == colon)) t else false

-- ---- what is kept

-- no value begins at these places of a text
abbrev pub AreBarren : List ℕ → List ℕ → Type 0
AreBarren text [] = ⊤
AreBarren text (place ∷ places) = (value_from Pretty (drop place text) ≡ None) × AreBarren text places

-- nor at those that are kept
abbrev pub IsBarren : List ℕ → Barren → Type 0
IsBarren text barren = AreBarren text (drop barren.first barren.places)

pub record IsKnown (text : List ℕ) (tries : Tries) : Type 0 where
  pub first : IsBarren text tries.first
  pub second : IsBarren text tries.second
