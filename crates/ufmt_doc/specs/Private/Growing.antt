-- A document that grows event by event.
use Rattle.std.specs.Prelude.{ℕ, Bool, false, List, [], ◌∷◌, Option, option_map}
use Rattle.ufmt.specs.Document.{Document, leaf, list_of, map_of, no_fields, documents, pairs_of}
use Rattle.ufmt_core.specs.declared.layout.Kind.{Kind}
use Rattle.ufmt_core.specs.declared.layout.Kind.TheVariants.{Brackets}
use Rattle.ufmt_doc.specs.declared.reader.document_sink.DocumentSink.{DocumentSink}
use Rattle.ufmt_doc.specs.Doc.{tree_document}
use Rattle.ufmt_doc.specs.Private.OpenBlock.{Block, blocks_view, changed, ended, field_named, keyed, opened, pushed, put}
use Rattle.ufmt_doc.specs.StructNames.{named_struct}
use Rattle.ufmt_scan.specs.declared.scan.event.Event.TheVariants.{Leaf, Empty, OnlyDots, Open, FieldName, Colon, Next, Close, Dots}
use Rattle.ufmt_scan.specs.Scan.{TextEvent}

-- the whole document once it has ended, and the open blocks, the innermost first
abbrev pub Growing : Type 0
Growing = Option Document × List Block

-- a list or a map without entries
abbrev pub empty_block : Kind → Document
empty_block Brackets = list_of (documents [])
empty_block kind = map_of (pairs_of [])

-- the innermost block ends
abbrev pub closed : Bool → Growing → Growing
closed dots (whole, []) = (whole, [])
closed dots (whole, innermost ∷ outer) = put (ended dots innermost) (whole, outer)

-- by whether names of structs can say that a struct ends in dots
module _ (says_dots : Bool) where
  -- what has grown, after one event more
  abbrev pub grow : Growing → TextEvent → Growing
  grow g (Leaf text) = put (leaf text) g
  grow g (FieldName name) = (g.0, changed (field_named name) g.1)
  grow g (Empty kind) = put (empty_block kind) g
  grow g (OnlyDots name) = put (named_struct (name, says_dots) no_fields) g
  grow g (Open kind name) = (g.0, pushed (opened kind name) g.1)
  grow g Colon = (g.0, changed keyed g.1)
  grow g Next = g
  grow g (Close kind count) = closed false g
  grow g Dots = closed says_dots g

  -- the same, after these events
  abbrev pub grown : Growing → List TextEvent → Growing
  grown g [] = g
  grown g (e ∷ es) = grown (grow g e) es

-- what a sink has made of the events that it took
abbrev pub growing : {N : Type 0} → (N → List ℕ × Bool) → DocumentSink N → Growing
growing shown sink = (option_map (tree_document shown) sink.whole, blocks_view shown sink.blocks.blocks.items)
