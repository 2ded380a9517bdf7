-- Examples of shifted texts, computed.
use Rattle.std.proofs.Common.{◌≡◌, codes, refl, arith}
use Rattle.ufmt_core.specs.Document.{Document, leaf, joined, list_of, set_of, map_of, struct_of, non_exhaustive_of, tuple_of, pretty_part, Documents, no_documents, first_document, no_pairs, first_pair, no_fields, first_field}
use Rattle.ufmt_core.specs.Layout.{pretty_text}
use Rattle.ufmt_core.specs.Shift.{shift, shift_times, shifted, HasNoLineFeed}

shift-empty : shift (codes "") ≡ codes ""
shift-empty = refl

-- one line, and an empty line
shift-line : shift (codes "a\n") ≡ codes "    a\n"
shift-line = refl

shift-empty_line : shift (codes "\n") ≡ codes "    \n"
shift-empty_line = refl

-- two lines, the first of which is indented already
shift-lines : shift (codes "    a,\nb,\n") ≡ codes "        a,\n    b,\n"
shift-lines = refl

shift-twice : shift_times 2 (codes "[\n]\n") ≡ codes "        [\n        ]\n"
shift-twice = refl

abbrev one : Document
one = leaf (codes "1")

abbrev two : Document
two = leaf (codes "2")

abbrev lone : Document → Documents
lone d = first_document d no_documents

shifted-leaf : shifted one ≡ codes "1"
shifted-leaf = refl

-- an empty list, and lists in a list
shifted-empty_list : shifted (list_of no_documents) ≡ codes "[]"
shifted-empty_list = refl

shifted-lists : shifted (list_of (first_document (list_of no_documents) (lone (list_of (lone one))))) ≡ codes "[\n    [],\n    [\n        1,\n    ],\n]"
shifted-lists = refl

-- a struct with a map and a number
shifted-settings : shifted (struct_of (codes "S")
    (first_field (codes "m") (map_of (first_pair one two no_pairs)) (first_field (codes "n") (leaf (codes "3")) no_fields)))
    ≡ codes "S {\n    m: {\n        1: 2,\n    },\n    n: 3,\n}"
shifted-settings = refl

-- tuples with and without a name, of one field and of two
shifted-single : shifted (tuple_of (codes "") (lone one)) ≡ codes "(\n    1,\n)"
shifted-single = refl

shifted-some : shifted (tuple_of (codes "Some") (lone one)) ≡ codes "Some(\n    1,\n)"
shifted-some = refl

shifted-couple : shifted (tuple_of (codes "") (first_document one (lone two))) ≡ codes "(\n    1,\n    2,\n)"
shifted-couple = refl

-- sets, and a map in a map
shifted-sets : shifted (list_of (first_document (set_of no_documents) (lone (set_of (lone one))))) ≡ codes "[\n    {},\n    {\n        1,\n    },\n]"
shifted-sets = refl

shifted-maps : shifted (map_of (first_pair one (map_of (first_pair two (leaf (codes "3")) no_pairs)) no_pairs)) ≡ codes "{\n    1: {\n        2: 3,\n    },\n}"
shifted-maps = refl

-- blocks without entries, joined
shifted-empty_blocks : shifted (joined (first_document (list_of no_documents)
    (first_document (map_of no_pairs) (first_document (struct_of (codes "A") no_fields) (lone (tuple_of (codes "B") no_documents)))))) ≡ codes "[]{}AB"
shifted-empty_blocks = refl

-- a struct that ends in dots, and one without fields
shifted-dotted : shifted (list_of (first_document (non_exhaustive_of (codes "P") (first_field (codes "x") one no_fields)) (lone (non_exhaustive_of (codes "Q") no_fields))))
    ≡ codes "[\n    P {\n        x: 1,\n        ..\n    },\n    Q { .. },\n]"
shifted-dotted = refl

-- a pretty part has the shifted text of its document
shifted-part : shifted (list_of (lone (pretty_part (tuple_of (codes "Some") (lone one))))) ≡ codes "[\n    Some(\n        1,\n    ),\n]"
shifted-part = refl

-- a leaf with a line feed: shifting moves its second line too, but pretty mode does not
abbrev two_lines : Document
two_lines = list_of (lone (leaf (codes "a\nb")))

shifted-two_lines : shifted two_lines ≡ codes "[\n    a\n    b,\n]"
shifted-two_lines = refl

pretty-two_lines : pretty_text two_lines ≡ codes "[\n    a\nb,\n]"
pretty-two_lines = refl

HasNoLineFeed-not-two_lines : HasNoLineFeed two_lines → ⊥
HasNoLineFeed-not-two_lines ((first_byte, (second_byte, others)), more) = second_byte refl

HasNoLineFeed-not-field_name : HasNoLineFeed (struct_of (codes "S") (first_field (codes "\n") one no_fields)) → ⊥
HasNoLineFeed-not-field_name (name, ((first_byte, others), value, more)) = first_byte refl

HasNoLineFeed-lists : HasNoLineFeed (list_of (first_document (list_of no_documents) (lone one)))
HasNoLineFeed-lists = (tt, ((λ e. omega (arith, e), tt), tt))
