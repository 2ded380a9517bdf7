use Rattle.std.proofs.Common.{true, false, ◌≡◌, inl, inr, ap, refl, rules, string_bytes, subst, sym, ◌∙◌}
use Rattle.ufmt.specs.Token.{IsName}
use Rattle.ufmt_doc.specs.declared.doc.Tree.{the_lemmas}
use Rattle.ufmt_doc.specs.Doc.{tree_document}
use Rattle.ufmt_doc.proofs.Trees.{tree_document-Listed, tree_document-MapOf, tree_document-SetOf, tree_document-StructOf, tree_document-TupleOf}
use Rattle.ufmt_doc.proofs.NormalForms.{braces_same, lists_same, maps_same, same_name, sets_same, struct_form, structs_same, tuple_form, tuples_same}
use Rattle.ufmt_doc.proofs.Within.{as_well, docs_within, fields_within, pairs_within, tuple_within, unnamed_within}
use Rattle.ufmt_doc.proofs.doc.checks.TreeSubtree.+parts.Goals as goal

pub is_within-returns-in-Listed : goal.is_within-returns-in-Listed
is_within-returns-in-Listed g t c = let shown = g.N.StructName.shown in
    let within = as_well c.is_within-in-Listed.ensures (docs_within shown _ _ c.in-Listed.entries.items) in
    elim c.in-Listed.is [ inl is ↦ rw (ap (tree_document shown) is ∙ tree_document-Listed shown _) within | inr is ↦ rw (ap (tree_document shown) is ∙ tree_document-SetOf shown _) within ]

pub is_within-returns-in-MapOf : goal.is_within-returns-in-MapOf
is_within-returns-in-MapOf g t c = let shown = g.N.StructName.shown in rw (c.in-MapOf.is, tree_document-MapOf shown) (as_well c.is_within.ensures (pairs_within shown _ _ _))

pub is_within-returns-then-is_struct_name : goal.is_within-returns-then-is_struct_name
is_within-returns-then-is_struct_name g t c = let shown = g.N.StructName.shown in
    rw (c.in-StructOf.is, tree_document-StructOf shown c.in-StructOf.name c.in-StructOf.fields)
    (as_well c.is_within-then-is_struct_name.ensures (fields_within shown _ _ (shown c.in-StructOf.name) (c.is_struct_name.ensures.0 c.if-is_struct_name.true) _))

pub is_within-returns-then-not-is_empty : goal.is_within-returns-then-not-is_empty
is_within-returns-then-not-is_empty g t c = let shown = g.N.StructName.shown in
    rw c.in-TupleOf.is (as_well (as_well c.is_within-then-not-is_empty.ensures (docs_within shown _ _ _))
    (unnamed_within shown _ _ _ _ false (sym c.is_empty.ensures ∙ c.if-is_empty.true) (sym c.if-not-is_empty.true ∙ c.is_empty-in-TupleOf.ensures)))

pub is_within-returns-else-not-is_empty : goal.is_within-returns-else-not-is_empty
is_within-returns-else-not-is_empty g t c = let shown = g.N.StructName.shown in
    rw (c.in-TupleOf.is, c.if-not-is_empty.false) (
      λ no. absurd (cc),
      λ h. absurd
          ((unnamed_within shown _ c.args.deepest _ _ true (sym c.is_empty.ensures ∙ c.if-is_empty.true) (sym c.if-not-is_empty.false ∙ c.is_empty-in-TupleOf.ensures)).1 h),
    )

pub is_within-returns-then-is_name_of : goal.is_within-returns-then-is_name_of
is_within-returns-then-is_name_of g t c = let shown = g.N.StructName.shown in
    let named = subst (IsName c.args.class) c.deref-in-TupleOf-2.ensures (c.is_name_of.ensures.0 c.if-is_name_of.true) in
    rw (c.in-TupleOf-2.is, tree_document-TupleOf shown)
    (as_well c.is_within-then-is_name_of.ensures (as_well (docs_within shown _ _ _) (tuple_within shown _ _ _ named _)))

pub is_same-returns-in-Listed-Listed : goal.is_same-returns-in-Listed-Listed
is_same-returns-in-Listed-Listed g t c = let shown = g.N.StructName.shown in simp (c.in-Listed-Listed.is-0, c.in-Listed-Listed.is-1, tree_document-Listed shown) (as_well c.is_same.ensures (lists_same shown _ _))

pub is_same-returns-in-SetOf-SetOf : goal.is_same-returns-in-SetOf-SetOf
is_same-returns-in-SetOf-SetOf g t c = let shown = g.N.StructName.shown in simp (c.in-SetOf-SetOf.is-0, c.in-SetOf-SetOf.is-1, tree_document-SetOf shown) (as_well c.is_same-in-SetOf-SetOf.ensures (sets_same shown _ _))

pub is_same-returns-in-SetOf-MapOf : goal.is_same-returns-in-SetOf-MapOf
is_same-returns-in-SetOf-MapOf g t c = let shown = g.N.StructName.shown in braces_same shown _ _ _ _ _ c.in-SetOf-MapOf.is-0 c.in-SetOf-MapOf.is-1 (rw (c.len.ensures, c.len-in-SetOf-MapOf.ensures) refl)

pub is_same-returns-in-MapOf-SetOf : goal.is_same-returns-in-MapOf-SetOf
is_same-returns-in-MapOf-SetOf g t c = let shown = g.N.StructName.shown in
    let same = braces_same shown _ _ _ _ _ c.in-MapOf-SetOf.is-1 c.in-MapOf-SetOf.is-0 (rw (c.len-in-MapOf-SetOf.ensures, c.len-in-MapOf-SetOf-2.ensures) refl) in
    (λ yes. sym (same.0 yes), λ h. same.1 (sym h))

pub is_same-returns-in-MapOf-MapOf : goal.is_same-returns-in-MapOf-MapOf
is_same-returns-in-MapOf-MapOf g t c = let shown = g.N.StructName.shown in simp (c.in-MapOf-MapOf.is-0, c.in-MapOf-MapOf.is-1, tree_document-MapOf shown) (as_well c.is_same-in-MapOf-MapOf.ensures (maps_same shown _ _))

pub is_same-returns-then-is_same_name : goal.is_same-returns-then-is_same_name
is_same-returns-then-is_same_name g t c = let shown = g.N.StructName.shown in
    let both = c.in-StructOf-StructOf in
    let named : shown both.name ≡ shown both.another = c.is_same_name.ensures.0 c.if-is_same_name.true in
    simp (both.is-0, both.is-1, tree_document-StructOf shown, named) (as_well c.is_same-then-is_same_name.ensures (structs_same shown (shown both.another) _ _))

pub is_same-returns-else-is_same_name : goal.is_same-returns-else-is_same_name
is_same-returns-else-is_same_name g t c = let shown = g.N.StructName.shown in
    let both = c.in-StructOf-StructOf in
    rw (both.is-0, both.is-1, tree_document-StructOf shown both.name both.fields, tree_document-StructOf shown both.another both.others, c.if-is_same_name.false)
    (λ no. absurd (cc), λ same. absurd (cc (c.is_same_name.ensures.1 (same_name (shown both.name) (shown both.another) _ _ same), c.if-is_same_name.false)))

pub is_same-returns-then-eq : goal.is_same-returns-then-eq
is_same-returns-then-eq g t c = let shown = g.N.StructName.shown in
    let named : string_bytes c.in-TupleOf-TupleOf.name ≡ string_bytes c.in-TupleOf-TupleOf.another = search rules in
    simp (c.in-TupleOf-TupleOf.is-0, c.in-TupleOf-TupleOf.is-1, tree_document-TupleOf shown, named) (as_well c.is_same-then-eq.ensures (tuples_same shown _ _ _))

pub is_same-returns-then-is_empty : goal.is_same-returns-then-is_empty
is_same-returns-then-is_empty g t c = let shown = g.N.StructName.shown in
    let one = c.in-StructOf-default-2 in
    let same : c.in-StructOf-default.name ≡ one.name = search (rules, the_lemmas) in
    rw (struct_form shown false _ _ _ _ one.is-0 (sym c.if-ends_in_dots.false ∙ c.ends_in_dots.ensures ∙ ap (λ name. (shown name).1) same) (sym c.if-is_empty.true ∙ c.is_empty.ensures)) (search rules)

pub is_same-returns-else-is_empty : goal.is_same-returns-else-is_empty
is_same-returns-else-is_empty g t c = let shown = g.N.StructName.shown in
    let one = c.in-StructOf-default-2 in
    let same : c.in-StructOf-default.name ≡ one.name = search (rules, the_lemmas) in
    let form = struct_form shown false _ _ _ _ one.is-0 (sym c.if-ends_in_dots.false ∙ c.ends_in_dots.ensures ∙ ap (λ name. (shown name).1) same) (sym c.if-is_empty.false ∙ c.is_empty.ensures) in search (rules, the_lemmas)

pub is_same-returns-then-is_empty-2 : goal.is_same-returns-then-is_empty-2
is_same-returns-then-is_empty-2 g t c = let shown = g.N.StructName.shown in rw (tuple_form shown _ _ _ _ c.in-TupleOf-default.is-0 (sym c.if-is_empty-2.true ∙ c.is_empty-in-TupleOf-default.ensures)) (search rules)

pub is_same-returns-else-is_empty-2 : goal.is_same-returns-else-is_empty-2
is_same-returns-else-is_empty-2 g t c = let shown = g.N.StructName.shown in rw (tuple_form shown _ _ _ _ c.in-TupleOf-default.is-0 (sym c.if-is_empty-2.false ∙ c.is_empty-in-TupleOf-default.ensures)) (search (rules, the_lemmas))
