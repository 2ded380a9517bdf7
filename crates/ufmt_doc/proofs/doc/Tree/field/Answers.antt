use Rattle.std.proofs.Common.{◌≡◌, ap, map, refl, sym, ◌∙◌, true, bytes_eq}
use Rattle.std.proofs.lemmas.List.{at_drop_more}
use Rattle.std.specs.Prelude.{string_bytes}
use Rattle.ufmt.specs.Document.{fields_of}
use Rattle.ufmt_doc.specs.DocViews.{field_view}
use Rattle.ufmt_doc.specs.Parts.{first_value}
use Rattle.ufmt_doc.proofs.doc.Tree.field.Goals as goal

pub returns-then-eq : goal.returns-then-eq
returns-then-eq g c =
    let named : bytes_eq (string_bytes c.loop-other-item.result.0) c.args.name.now ≡ true = ap (λ text. bytes_eq text c.args.name.now) (sym c.as_str.ensures.value) ∙ sym c.eq.ensures ∙ c.if-eq.true in
    sym (c.loop-other.invariant ∙ at_drop_more (λ fs. first_value c.args.name.now (fields_of (map (field_view g.N.StructName.shown) fs))) _ _ c.loop-other-item.result c.loop-other-test.true
    ∙ rw (← c.loop-other-item.is, named) refl)
