-- The layouts of some documents, computed.
use Prim.Native.String.{String as Text}
use Rattle.std.proofs.Common.{◌≡◌, codes, refl}
use Rattle.ufmt_core.specs.Document.{Document, leaf, joined, list_of, set_of, map_of, struct_of, non_exhaustive_of, tuple_of, pretty_part, Documents, no_documents, first_document, no_pairs, first_pair, no_fields, first_field, nest}
use Rattle.ufmt_core.specs.Layout.{plain_text, pretty_text}

abbrev one : Document
one = leaf (codes "1")

abbrev two : Document
two = leaf (codes "2")

abbrev lone : Document → Documents
lone d = first_document d no_documents

-- the document has this plain text and this pretty text
abbrev HasTexts : Document → Text → Text → Type 0
HasTexts d plain pretty = (plain_text d ≡ codes plain) × (pretty_text d ≡ codes pretty)

-- a list of an empty list and a list of one number
abbrev lists : Document
lists = list_of (first_document (list_of no_documents) (lone (list_of (lone one))))

lists-texts : HasTexts lists "[[], [1]]" "[\n    [],\n    [\n        1,\n    ],\n]"
lists-texts = (refl, refl)

lists-nest : nest lists ≡ 2
lists-nest = refl

-- a struct of a map and a number
abbrev settings : Document
settings = struct_of (codes "S") (first_field (codes "m") (map_of (first_pair one two no_pairs)) (first_field (codes "n") (leaf (codes "3")) no_fields))

settings-texts : HasTexts settings "S { m: {1: 2}, n: 3 }" "S {\n    m: {\n        1: 2,\n    },\n    n: 3,\n}"
settings-texts = (refl, refl)

-- structs that end in dots, with a field and without
abbrev dotted : Document
dotted = non_exhaustive_of (codes "P") (first_field (codes "x") one no_fields)

dotted-texts : HasTexts dotted "P { x: 1, .. }" "P {\n    x: 1,\n    ..\n}"
dotted-texts = (refl, refl)

dotted-nested : HasTexts (list_of (lone dotted)) "[P { x: 1, .. }]" "[\n    P {\n        x: 1,\n        ..\n    },\n]"
dotted-nested = (refl, refl)

dots-texts : HasTexts (non_exhaustive_of (codes "P") no_fields) "P { .. }" "P { .. }"
dots-texts = (refl, refl)

-- tuples with and without a name, of one field and of two
single-texts : HasTexts (tuple_of (codes "") (lone one)) "(1,)" "(\n    1,\n)"
single-texts = (refl, refl)

some-texts : HasTexts (tuple_of (codes "Some") (lone one)) "Some(1)" "Some(\n    1,\n)"
some-texts = (refl, refl)

couple-texts : HasTexts (tuple_of (codes "") (first_document one (lone two))) "(1, 2)" "(\n    1,\n    2,\n)"
couple-texts = (refl, refl)

-- a set, and a map of maps
sets-pretty : pretty_text (list_of (first_document (set_of no_documents) (lone (set_of (lone one))))) ≡ codes "[\n    {},\n    {\n        1,\n    },\n]"
sets-pretty = refl

maps-pretty : pretty_text (map_of (first_pair one (map_of (first_pair two (leaf (codes "3")) no_pairs)) no_pairs)) ≡ codes "{\n    1: {\n        2: 3,\n    },\n}"
maps-pretty = refl

-- blocks without entries
empty-pretty : pretty_text (joined (first_document (list_of no_documents)
    (first_document (map_of no_pairs) (first_document (struct_of (codes "A") no_fields) (lone (tuple_of (codes "B") no_documents)))))) ≡ codes "[]{}AB"
empty-pretty = refl

-- a pretty part inside a plain list
part-plain : plain_text (list_of (lone (pretty_part (tuple_of (codes "Some") (lone one))))) ≡ codes "[Some(\n    1,\n)]"
part-plain = refl
