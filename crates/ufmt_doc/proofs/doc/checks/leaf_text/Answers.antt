use Rattle.std.proofs.Common.{true, false, ◌≡◌, ap, refl, rules, sym, ◌∙◌}
use Rattle.ufmt_doc.specs.declared.doc.Tree.{the_lemmas}
use Rattle.ufmt_doc.proofs.NormalForms.{leaf_of, struct_form, tuple_form}
use Rattle.ufmt_doc.proofs.doc.checks.leaf_text.Goals as goal

pub returns-in-StructOf : goal.returns-in-StructOf
returns-in-StructOf g c =
    rw (struct_form g.N.StructName.shown true _ _ _ _ c.in-StructOf.is (sym c.if-ends_in_dots.true ∙ c.ends_in_dots.ensures) refl) refl

pub returns-in-StructOf-2 : goal.returns-in-StructOf-2
returns-in-StructOf-2 g c =
    let shown = g.N.StructName.shown in
    let same : c.in-StructOf.name ≡ c.in-StructOf-2.name = search (rules, the_lemmas) in
    rw (
      struct_form shown false _ _ _ _ c.in-StructOf-2.is (sym c.if-ends_in_dots.false ∙ c.ends_in_dots.ensures ∙ ap (λ name. (shown name).1) same) c.is_empty.ensures,
      c.then_some.ensures,
      ← c.as_str.ensures,
    ) (leaf_of _ _ _ refl)

pub returns-in-TupleOf : goal.returns-in-TupleOf
returns-in-TupleOf g c =
    rw (tuple_form g.N.StructName.shown _ _ _ _ c.in-TupleOf.is c.is_empty-in-TupleOf.ensures, c.then_some-in-TupleOf.ensures, ← c.as_str-in-TupleOf.ensures.value) (leaf_of _ _ _ refl)
