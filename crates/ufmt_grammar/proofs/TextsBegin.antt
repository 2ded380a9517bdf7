-- The text of a document of a class begins with no comma and no closing bracket.
use Rattle.std.proofs.Common.{refl, [], ◌∷◌}
use Rattle.ufmt_core.specs.Bytes.{opening_brace, opening_bracket, opening_parenthesis}
use Rattle.ufmt_core.specs.Document.{Document, leaf, joined, list_of, set_of, map_of, struct_of, non_exhaustive_of, tuple_of, pretty_part, no_documents, first_document}
use Rattle.ufmt_core.specs.Layout.{layout}
use Rattle.ufmt_core.specs.declared.layout.Setting.{Setting}
use Rattle.ufmt_grammar.specs.Token.{Class, IsBuilt}
use Rattle.ufmt_grammar.proofs.ClassLeaves.{Begins, Begins-append, leaf_begins, name_begins}

pub document_begins : (class : Class) (i : Setting) (d : Document) → IsBuilt class d → Begins (layout i d)
document_begins class i (leaf text) h = leaf_begins class text h
document_begins class i (joined ds) h = absurd h
document_begins class i (list_of ds) h = record { first = opening_bracket; tail = _; is = refl; no_ender = refl }
document_begins class i (set_of ds) h = record { first = opening_brace; tail = _; is = refl; no_ender = refl }
document_begins class i (map_of ps) h = record { first = opening_brace; tail = _; is = refl; no_ender = refl }
document_begins class i (struct_of name fs) h = Begins-append (name_begins class name h.0) _
document_begins class i (tuple_of name no_documents) h = Begins-append (name_begins class name h) _
document_begins class i (tuple_of [] (first_document d ds)) h = record { first = opening_parenthesis; tail = _; is = refl; no_ender = refl }
document_begins class i (tuple_of (c ∷ name) (first_document d ds)) h = Begins-append (name_begins class (c ∷ name) h.0) _
document_begins class i (non_exhaustive_of name fs) h = Begins-append (name_begins class name h.1) _
document_begins class i (pretty_part d) h = absurd h
