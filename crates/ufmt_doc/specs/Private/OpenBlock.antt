-- What a reader's open blocks hold so far, as documents.
use Rattle.std.specs.Prelude.{ℕ, Bool, nat_lt, List, [], ◌∷◌, ◌++◌, length, map, reverse, Option, None, Some, option_map, if◌then◌else◌, string_bytes}
use Rattle.ufmt.specs.Document.{Document, list_of, set_of, map_of, tuple_of, documents, pairs_of, fields_of}
use Rattle.ufmt_core.specs.declared.layout.Kind.{Kind}
use Rattle.ufmt_core.specs.declared.layout.Kind.TheVariants.{Brackets, Braces, Struct, Tuple, Unnamed}
use Rattle.ufmt_doc.specs.declared.reader.open_block.OpenBlock.{OpenBlock}
use Rattle.ufmt_doc.specs.declared.reader.open_block.OpenBlock.TheVariants.{Listed, SetOf, MapOf, StructOf, TupleOf}
use Rattle.ufmt_doc.specs.Doc.{tree_document}
use Rattle.ufmt_doc.specs.DocViews.{field_view, pair_view}
use Rattle.ufmt_doc.specs.StructNames.{named_struct}

-- an open block: its name, its entries so far, and the key or the field's name that waits for its value
pub data Block : Type 0 where
  open_list : List Document → Block
  open_set : List Document → Block
  open_map : List (Document × Document) → Option Document → Block
  open_struct : List ℕ → List (List ℕ × Document) → Option (List ℕ) → Block
  open_tuple : List ℕ → List Document → Block

module _ {N : Type 0} (shown : N → List ℕ × Bool) where
  -- what a block holds
  abbrev pub block_view : OpenBlock N → Block
  block_view (Listed entries) = open_list (map (tree_document shown) entries.items)
  block_view (SetOf entries) = open_set (map (tree_document shown) entries.items)
  block_view (MapOf pairs key) = open_map (map (pair_view shown) pairs.items) (option_map (tree_document shown) key)
  block_view (StructOf name fields field_name) = open_struct (string_bytes name) (map (field_view shown) fields.items) (option_map string_bytes field_name)
  block_view (TupleOf name entries) = open_tuple (string_bytes name) (map (tree_document shown) entries.items)

  -- what the open blocks hold, the innermost first
  abbrev pub blocks_view : List (OpenBlock N) → List Block
  blocks_view blocks = reverse (map block_view blocks)

-- a block of this kind without entries; only a struct or a tuple with a name has one
abbrev pub opened : Kind → List ℕ → Block
opened Brackets name = open_list []
opened Braces name = open_set []
opened Struct name = open_struct name [] None
opened Tuple name = open_tuple name []
opened Unnamed name = open_tuple [] []

-- a document comes after the entries: as one more, as a key, or as the value of what waits
abbrev pub entered : Document → Block → Block
entered d (open_list ds) = open_list (ds ++ d ∷ [])
entered d (open_set ds) = open_set (ds ++ d ∷ [])
entered d (open_map ps None) = open_map ps (Some d)
entered d (open_map ps (Some key)) = open_map (ps ++ (key, d) ∷ []) None
entered d (open_struct name fs None) = open_struct name fs None
entered d (open_struct name fs (Some field_name)) = open_struct name (fs ++ (field_name, d) ∷ []) None
entered d (open_tuple name ds) = open_tuple name (ds ++ d ∷ [])

-- a field's name waits for its value
abbrev pub field_named : List ℕ → Block → Block
field_named field_name (open_struct name fs waiting) = open_struct name fs (Some field_name)
field_named field_name block = block

-- the last item
abbrev pub last_of : {A : Type 0} → List A → Option A
last_of [] = None
last_of (x ∷ []) = Some x
last_of (x ∷ y ∷ xs) = last_of (y ∷ xs)

-- a colon comes: what looked like a set is a map, and its entry is a key
abbrev pub keyed : Block → Block
keyed (open_set ds) = open_map [] (last_of ds)
keyed block = block

-- the document of a block that ends, by whether it ends in dots
abbrev pub ended : Bool → Block → Document
ended dots (open_list ds) = list_of (documents ds)
ended dots (open_set ds) = set_of (documents ds)
ended dots (open_map ps key) = map_of (pairs_of ps)
ended dots (open_struct name fs field_name) = named_struct (name, dots) (fields_of fs)
ended dots (open_tuple name ds) = tuple_of name (documents ds)

-- a block is opened, unless 256 are open
abbrev pub pushed : Block → List Block → List Block
pushed block blocks = if nat_lt (length blocks) 256 then block ∷ blocks else blocks

-- the innermost block changes
abbrev pub changed : (Block → Block) → List Block → List Block
changed change [] = []
changed change (innermost ∷ outer) = change innermost ∷ outer

-- a document comes in the innermost block, or as the whole document
abbrev pub put : Document → Option Document × List Block → Option Document × List Block
put d (whole, []) = (Some d, [])
put d (whole, innermost ∷ outer) = (whole, entered d innermost ∷ outer)
