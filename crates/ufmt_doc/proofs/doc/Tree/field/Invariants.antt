-- The first value with the name is the first one among the fields that are left.
use Rattle.std.proofs.Common.{◌≡◌, drop, map}
use Rattle.ufmt.specs.Document.{fields_of}
use Rattle.ufmt_doc.specs.Doc.{tree_document}
use Rattle.ufmt_doc.specs.DocViews.{field_view}
use Rattle.ufmt_doc.specs.Parts.{field_part, first_value}
use Rattle.ufmt_doc.proofs.doc.Tree.field.Given as goal

abbrev pub invariant-loop-other : goal.invariant-loop-other
invariant-loop-other g l = field_part l.name (tree_document g.N.StructName.shown l.self)
    ≡ first_value l.name (fields_of (map (field_view g.N.StructName.shown) (drop l.other-index l.other-items)))
