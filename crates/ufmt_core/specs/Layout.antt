-- The text of a document, in each mode and from each depth.
use Rattle.std.specs.Prelude.{ℕ, zero, suc, ◌+◌, min, List, [], ◌∷◌, ◌++◌, codes}
use Rattle.ufmt_core.specs.Bytes.{line_feed, space}
use Rattle.ufmt_core.specs.Document.{Document, leaf, joined, list_of, set_of, map_of, struct_of, non_exhaustive_of, tuple_of, pretty_part, Documents, no_documents, first_document, Pairs, no_pairs, first_pair, Fields, no_fields, first_field}
pub use Rattle.ufmt_core.specs.declared.layout.Mode.{Mode}
pub use Rattle.ufmt_core.specs.declared.layout.Mode.TheVariants.{Plain, Pretty}
pub use Rattle.ufmt_core.specs.declared.layout.Setting.{Setting}
pub use Rattle.ufmt_core.specs.declared.layout.Kind.{Kind}
pub use Rattle.ufmt_core.specs.declared.layout.Kind.TheVariants.{Brackets, Braces, Struct, Tuple, Unnamed}
pub use Rattle.ufmt_core.specs.declared.layout.Count.{Count}
pub use Rattle.ufmt_core.specs.declared.layout.Count.TheVariants.{Zero, One, Several}

-- an entry of a block is its lead, its text and its trail; a frame is the text around the entries
pub record Frame : Type 0 where
  -- comes after the block's name, with entries or without
  pub opening : List ℕ
  -- comes before the first entry
  pub start : List ℕ
  -- ends a block with this count of entries, on its last line
  pub closing : Count → List ℕ

-- the text if there are entries, else nothing
abbrev pub if_any : Count → List ℕ → List ℕ
if_any Zero text = []
if_any One text = text
if_any Several text = text

-- the space inside the braces of a struct
abbrev pub brace_space : Mode → List ℕ
brace_space Plain = codes " "
brace_space Pretty = []

-- the comma after the only entry of a tuple without a name
abbrev pub lone_comma : Count → Mode → List ℕ
lone_comma Zero mode = []
lone_comma One Plain = codes ","
lone_comma One Pretty = []
lone_comma Several mode = []

-- the table of blocks, by kind
abbrev pub frame : Mode → Kind → Frame
frame mode Brackets = record { opening = codes "["; start = []; closing = λ count. codes "]" }
frame mode Braces = record { opening = codes "{"; start = []; closing = λ count. codes "}" }
frame mode Struct = record { opening = []; start = codes " {" ++ brace_space mode; closing = λ count. if_any count (brace_space mode ++ codes "}") }
frame mode Tuple = record { opening = []; start = codes "("; closing = λ count. if_any count (codes ")") }
frame mode Unnamed = record { opening = []; start = codes "("; closing = λ count. lone_comma count mode ++ if_any count (codes ")") }

-- the kind of a tuple with this name
abbrev pub tuple_kind : List ℕ → Kind
tuple_kind [] = Unnamed
tuple_kind (c ∷ name) = Tuple

abbrev pub setting : Mode → ℕ → Setting
setting mode k = record { mode = mode; depth = k }

-- the depth of the entries of a block at depth k
abbrev pub entry_depth : Mode → ℕ → ℕ
entry_depth Plain k = k
entry_depth Pretty k = min (k + 1) 255

-- the mode and depth of the entries of a block at this mode and depth
abbrev pub inside : Setting → Setting
inside s = setting s.mode (entry_depth s.mode s.depth)

-- k times four spaces
abbrev pub indentation : ℕ → List ℕ
indentation zero = []
indentation (suc k) = space ∷ space ∷ space ∷ space ∷ indentation k

-- the start of a line at depth k
abbrev pub line_start : Mode → ℕ → List ℕ
line_start Plain k = []
line_start Pretty k = indentation k

-- the text between the start of a block and its first entry, at depth k
abbrev pub new_line : Mode → ℕ → List ℕ
new_line Plain k = []
new_line Pretty k = line_feed ∷ indentation k

-- the lead of an entry that is not the first, at depth k
abbrev pub later_lead : Mode → ℕ → List ℕ
later_lead Plain k = codes ", "
later_lead Pretty k = indentation k

-- the text after an entry
abbrev pub trail : Mode → List ℕ
trail Plain = []
trail Pretty = codes ",\n"

-- the space between a bracket and the entries, which only a plain struct has
abbrev pub inner_space : Mode → Kind → List ℕ
inner_space mode Brackets = []
inner_space mode Braces = []
inner_space mode Struct = brace_space mode
inner_space mode Tuple = []
inner_space mode Unnamed = []

-- the end of the text before a first entry, without the indentation: a line feed, or the space inside a struct's brace
abbrev pub first_gap : Mode → Kind → List ℕ
first_gap Pretty kind = line_feed ∷ []
first_gap Plain kind = inner_space Plain kind

-- the same of an entry after this count of others
abbrev pub gap : Mode → Kind → Count → List ℕ
gap mode kind Zero = first_gap mode kind
gap mode kind One = []
gap mode kind Several = []

-- the text before an entry, after this count of others, at the entries' mode and depth
abbrev pub lead : Frame → Setting → Count → List ℕ
lead f i Zero = f.start ++ new_line i.mode i.depth
lead f i One = later_lead i.mode i.depth
lead f i Several = later_lead i.mode i.depth

-- the text that ends a block with this count of entries, at the block's mode and depth
abbrev pub ending : Frame → Setting → Count → List ℕ
ending f s count = if_any count (line_start s.mode s.depth) ++ f.closing count

-- the count with one entry more
abbrev pub next : Count → Count
next Zero = One
next One = Several
next Several = Several

-- the rest of a block after this count of entries: entries with these texts, and the end
abbrev pub block_tail : Frame → Setting → Count → List (List ℕ) → List ℕ
block_tail f s count [] = ending f s count
block_tail f s count (text ∷ texts) = lead f (inside s) count ++ (text ++ (trail s.mode ++ block_tail f s (next count) texts))

-- a block with this name and entries with these texts
abbrev pub block_text : Kind → Setting → List ℕ → List (List ℕ) → List ℕ
block_text kind s name texts = name ++ ((frame s.mode kind).opening ++ block_tail (frame s.mode kind) s Zero texts)

-- an entry with this text: the lead, the text and the trail
abbrev pub framed : Frame → Setting → Count → List ℕ → List ℕ
framed f i count text = lead f i count ++ (text ++ trail i.mode)

-- entries with these texts in a row
abbrev pub framed_all : Frame → Setting → Count → List (List ℕ) → List ℕ
framed_all f i count [] = []
framed_all f i count (text ∷ texts) = framed f i count text ++ framed_all f i (next count) texts

-- the count after these entries
abbrev pub count_after : {X : Type 0} → Count → List X → Count
count_after count [] = count
count_after count (x ∷ xs) = count_after (next count) xs

-- the dots in place of a field that is not the first, and the rest of their line, at the fields' mode and depth
abbrev pub dots_line : Mode → ℕ → List ℕ
dots_line Plain k = codes ", .."
dots_line Pretty k = indentation k ++ codes "..\n"

-- the text that ends a struct of which not all fields are shown, after this count of fields
abbrev pub dots_ending : Setting → Count → List ℕ
dots_ending s Zero = codes " { .. }"
dots_ending s One = dots_line s.mode (inside s).depth ++ ending (frame s.mode Struct) s One
dots_ending s Several = dots_line s.mode (inside s).depth ++ ending (frame s.mode Struct) s Several

-- what follows the name of such a struct: fields with these texts in a row, and the ending
abbrev pub dotted_fields : Setting → List (List ℕ) → List ℕ
dotted_fields s texts = framed_all (frame s.mode Struct) (inside s) Zero texts ++ dots_ending s (count_after Zero texts)

abbrev mutual
  -- the text of a document at this mode and depth
  pub layout : Setting → Document → List ℕ
  layout s (leaf text) = text
  layout s (joined ds) = layouts s ds
  layout s (list_of ds) = block_text Brackets s [] (texts (inside s) ds)
  layout s (set_of ds) = block_text Braces s [] (texts (inside s) ds)
  layout s (map_of ps) = block_text Braces s [] (pair_texts (inside s) ps)
  layout s (struct_of name fs) = block_text Struct s name (field_texts (inside s) fs)
  layout s (non_exhaustive_of name fs) = name ++ dotted_fields s (field_texts (inside s) fs)
  layout s (tuple_of name ds) = block_text (tuple_kind name) s name (texts (inside s) ds)
  layout s (pretty_part d) = layout (setting Pretty s.depth) d

  pub layouts : Setting → Documents → List ℕ
  layouts s no_documents = []
  layouts s (first_document d ds) = layout s d ++ layouts s ds

  -- the texts of entries, of pairs and of fields
  pub texts : Setting → Documents → List (List ℕ)
  texts i no_documents = []
  texts i (first_document d ds) = layout i d ∷ texts i ds

  pub pair_texts : Setting → Pairs → List (List ℕ)
  pair_texts i no_pairs = []
  pair_texts i (first_pair key value ps) = (layout i key ++ (codes ": " ++ layout i value)) ∷ pair_texts i ps

  pub field_texts : Setting → Fields → List (List ℕ)
  field_texts i no_fields = []
  field_texts i (first_field name value fs) = (name ++ (codes ": " ++ layout i value)) ∷ field_texts i fs

abbrev pub plain_text : Document → List ℕ
plain_text d = layout (setting Plain 0) d

abbrev pub pretty_text : Document → List ℕ
pretty_text d = layout (setting Pretty 0) d
