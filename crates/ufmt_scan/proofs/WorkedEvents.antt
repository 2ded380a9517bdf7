-- The events of a small document, and their texts, computed.
use Rattle.std.proofs.Common.{◌≡◌, refl, [], ◌∷◌, codes}
use Rattle.ufmt_core.specs.Document.{Document, leaf, list_of, set_of, map_of, struct_of, non_exhaustive_of, tuple_of, no_documents, first_document, no_pairs, first_pair, no_fields, first_field}
use Rattle.ufmt_core.specs.Layout.{setting}
use Rattle.ufmt_core.specs.declared.layout.Count.TheVariants.{One, Several}
use Rattle.ufmt_core.specs.declared.layout.Kind.TheVariants.{Brackets, Braces, Struct, Unnamed}
use Rattle.ufmt_core.specs.declared.layout.Mode.TheVariants.{Plain, Pretty}
use Rattle.ufmt_scan.specs.Scan.{events_of, Leaf, Empty, OnlyDots, Open, FieldName, Colon, Next, Close, Dots}
use Rattle.ufmt_scan.specs.ScanTexts.{texts_written}

-- a struct with two fields: a list of a word and a map from a word to an empty set, and a tuple of one word
abbrev worked : Document
worked = struct_of (codes "S") (first_field (codes "l") (list_of (first_document (leaf (codes "a"))
    (first_document (map_of (first_pair (leaf (codes "N")) (set_of no_documents) no_pairs)) no_documents)))
    (first_field (codes "t") (tuple_of [] (first_document (leaf (codes "b")) no_documents)) no_fields))

worked-events : events_of worked ≡ Open Struct (codes "S") ∷ FieldName (codes "l") ∷ Open Brackets [] ∷ Leaf (codes "a") ∷ Next
    ∷ Open Braces [] ∷ Leaf (codes "N") ∷ Colon ∷ Empty Braces ∷ Close Braces One ∷ Close Brackets Several ∷ Next
    ∷ FieldName (codes "t") ∷ Open Unnamed [] ∷ Leaf (codes "b") ∷ Close Unnamed One ∷ Close Struct Several ∷ []
worked-events = refl

worked-plain : texts_written (setting Plain 0) (events_of worked) ≡ codes "S { l: [a, {N: {}}], t: (b,) }"
worked-plain = refl

pub worked-pretty : texts_written (setting Pretty 0) (events_of worked)
    ≡ codes "S {\n    l: [\n        a,\n        {\n            N: {},\n        },\n    ],\n    t: (\n        b,\n    ),\n}"
worked-pretty = refl

-- a struct that ends in dots after a field, which is one with only dots
abbrev dotted : Document
dotted = non_exhaustive_of (codes "S") (first_field (codes "t") (non_exhaustive_of (codes "T") no_fields) no_fields)

dotted-events : events_of dotted ≡ Open Struct (codes "S") ∷ FieldName (codes "t") ∷ OnlyDots (codes "T") ∷ Next ∷ Dots ∷ []
dotted-events = refl

dotted-plain : texts_written (setting Plain 0) (events_of dotted) ≡ codes "S { t: T { .. }, .. }"
dotted-plain = refl

pub dotted-pretty : texts_written (setting Pretty 0) (events_of dotted) ≡ codes "S {\n    t: T { .. },\n    ..\n}"
dotted-pretty = refl
