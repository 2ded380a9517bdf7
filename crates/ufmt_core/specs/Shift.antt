-- Shifted text, a second definition of pretty text: the finished lines of a block's entries are indented, with no mode and no depth.
use Rattle.std.specs.Prelude.{◌≢◌, ℕ, zero, suc, ◌==◌, List, [], ◌∷◌, ◌++◌, Bool, true, false, codes, ⊤}
use Rattle.ufmt_core.specs.Bytes.{line_feed}
use Rattle.ufmt_core.specs.Document.{Document, leaf, joined, list_of, set_of, map_of, struct_of, non_exhaustive_of, tuple_of, pretty_part, Documents, no_documents, first_document, Pairs, no_pairs, first_pair, Fields, no_fields, first_field}
use Rattle.ufmt_core.specs.EachText.{EachText, EachTextOfEntries, EachTextOfPairs, EachTextOfFields}
use Rattle.ufmt_core.specs.Layout.{Frame, frame, tuple_kind}
use Rattle.ufmt_core.specs.declared.layout.Count.TheVariants.{Zero, Several}
use Rattle.ufmt_core.specs.declared.layout.Mode.TheVariants.{Pretty}
use Rattle.ufmt_core.specs.declared.layout.Kind.{Kind}
use Rattle.ufmt_core.specs.declared.layout.Kind.TheVariants.{Brackets, Braces, Struct}

-- what shifting puts before a byte: four spaces if the byte begins a line
abbrev pub margin : Bool → List ℕ
margin true = codes "    "
margin false = []

-- shifts lines; the flag says whether the first byte begins a line, and a line begins after each line feed
abbrev pub shift_from : Bool → List ℕ → List ℕ
shift_from begins [] = []
shift_from begins (c ∷ text) = margin begins ++ (c ∷ shift_from (c == line_feed) text)

-- puts four spaces before each line of a text in which each line ends with a line feed
abbrev pub shift : List ℕ → List ℕ
shift text = shift_from true text

-- a text shifted k times
abbrev pub shift_times : ℕ → List ℕ → List ℕ
shift_times zero text = text
shift_times (suc k) text = shift_times k (shift text)

-- these texts, each with a comma and a line feed after it, and the last lines
abbrev pub entry_lines : List (List ℕ) → List ℕ → List ℕ
entry_lines [] last = last
entry_lines (text ∷ texts) last = text ++ (codes ",\n" ++ entry_lines texts last)

-- what follows the opening of a block in this frame: the shifted lines of its entries, and the closing
abbrev pub shifted_tail : Frame → List (List ℕ) → List ℕ
shifted_tail f [] = f.closing Zero
shifted_tail f (text ∷ texts) = f.start ++ (codes "\n" ++ (shift (entry_lines (text ∷ texts) []) ++ f.closing Several))

-- a block of this kind and name, whose entries have these texts
abbrev pub shifted_block : Kind → List ℕ → List (List ℕ) → List ℕ
shifted_block kind name texts = name ++ ((frame Pretty kind).opening ++ shifted_tail (frame Pretty kind) texts)

-- what follows the name of a struct that ends in dots: the shifted lines of its fields and of the dots, and the closing
abbrev pub shifted_dotted : List (List ℕ) → List ℕ
shifted_dotted [] = codes " { .. }"
shifted_dotted (text ∷ texts) = codes " {\n" ++ (shift (entry_lines (text ∷ texts) (codes "..\n")) ++ codes "}")

abbrev mutual
  -- the shifted text of a document
  pub shifted : Document → List ℕ
  shifted (leaf text) = text
  shifted (joined ds) = shifted_joined ds
  shifted (list_of ds) = shifted_block Brackets [] (shifted_texts ds)
  shifted (set_of ds) = shifted_block Braces [] (shifted_texts ds)
  shifted (map_of ps) = shifted_block Braces [] (shifted_pairs ps)
  shifted (struct_of name fs) = shifted_block Struct name (shifted_fields fs)
  shifted (non_exhaustive_of name fs) = name ++ shifted_dotted (shifted_fields fs)
  shifted (tuple_of name ds) = shifted_block (tuple_kind name) name (shifted_texts ds)
  shifted (pretty_part d) = shifted d

  pub shifted_joined : Documents → List ℕ
  shifted_joined no_documents = []
  shifted_joined (first_document d ds) = shifted d ++ shifted_joined ds

  -- the shifted texts of entries, of pairs and of fields
  pub shifted_texts : Documents → List (List ℕ)
  shifted_texts no_documents = []
  shifted_texts (first_document d ds) = shifted d ∷ shifted_texts ds

  pub shifted_pairs : Pairs → List (List ℕ)
  shifted_pairs no_pairs = []
  shifted_pairs (first_pair key value ps) = (shifted key ++ (codes ": " ++ shifted value)) ∷ shifted_pairs ps

  pub shifted_fields : Fields → List (List ℕ)
  shifted_fields no_fields = []
  shifted_fields (first_field name value fs) = (name ++ (codes ": " ++ shifted value)) ∷ shifted_fields fs

-- a text of one line has no line feed
abbrev pub IsOneLine : List ℕ → Type 0
IsOneLine [] = ⊤
IsOneLine (c ∷ text) = (c ≢ line_feed) × IsOneLine text

-- no leaf, no name and no field name of the document has a line feed
abbrev pub HasNoLineFeed : Document → Type 0
HasNoLineFeed d = EachText IsOneLine IsOneLine d

abbrev pub HaveNoLineFeed : Documents → Type 0
HaveNoLineFeed ds = EachTextOfEntries IsOneLine IsOneLine ds

abbrev pub PairsHaveNoLineFeed : Pairs → Type 0
PairsHaveNoLineFeed ps = EachTextOfPairs IsOneLine IsOneLine ps

abbrev pub FieldsHaveNoLineFeed : Fields → Type 0
FieldsHaveNoLineFeed fs = EachTextOfFields IsOneLine IsOneLine fs
