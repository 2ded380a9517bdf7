use Rattle.std.proofs.Common.{ℕ, Bool, List, Vec, String, Global, get_or, ◌≡◌, ◌==◌, ◌||◌, not, string_bytes, map, vec_len, true, false, ap, refl, sym, ◌∙◌}
use Rattle.std.specs.Vec.{with_items}
use Rattle.ufmt.specs.Document.{Document, documents, fields_of, leaf, map_of, pairs_of, set_of, tuple_of}
use Rattle.ufmt.specs.Token.{normal, normal_all, normal_fields, normal_pairs}
use Rattle.ufmt_doc.specs.declared.doc.Tree.TheOpen.{MapOf, SetOf, StructOf, TupleOf}
use Rattle.ufmt_doc.specs.declared.doc.Tree.TheViews.{out-roll-Tree}
use Rattle.ufmt_doc.specs.declared.doc.Tree.TheVariants.{rolls-MapOf, rolls-SetOf, rolls-StructOf, rolls-TupleOf}
use Rattle.ufmt_doc.specs.Doc.{tree_document, Tree}
use Rattle.ufmt_doc.specs.DocViews.{pair_view, field_view}
use Rattle.ufmt_doc.specs.StructNames.{named_struct}
use Rattle.ufmt_doc.proofs.Trees.{tree_document-Leaf, tree_document-MapOf, tree_document-SetOf, tree_document-StructOf, tree_document-TupleOf}
use Rattle.ufmt_doc.proofs.NormalForms.{became, HasBecome-all, map_form, normal_all-map, normal_pairs-map, normal_fields-map, set_empty, set_filled, struct_block, struct_leaf, tuple_form, visit_leaves, visited}
use Rattle.ufmt_doc.proofs.doc.+normalize.Goals as goal

-- after a loop all entries are visited
pub normalize_all-returns : goal.normalize_all-returns
normalize_all-returns g t c =
    let l = c.loop-doc in
    let view = tree_document g.N.StructName.shown in
    ap documents (HasBecome-all view _ l.doc-index l.docs _ l.invariant.rest.0 c.loop-doc-test.false l.invariant.done) ∙ normal_all-map view _

pub normalize_pairs-returns : goal.normalize_pairs-returns
normalize_pairs-returns g t c =
    let l = c.loop-key in
    let view = pair_view g.N.StructName.shown in
    ap pairs_of (HasBecome-all view _ l.key-index l.pairs _ l.invariant.rest.0 c.loop-key-test.false l.invariant.done) ∙ normal_pairs-map view _

pub normalize_fields-returns : goal.normalize_fields-returns
normalize_fields-returns g t c =
    let l = c.loop-value in
    let view = field_view g.N.StructName.shown in
    ap fields_of (HasBecome-all view _ l.value-index l.fields _ l.invariant.rest.0 c.loop-value-test.false l.invariant.done) ∙ normal_fields-map view _

-- each visit makes one more item what it is to be
pub normalize_all-loop-doc-preserved : goal.normalize_all-loop-doc-preserved
normalize_all-loop-doc-preserved g t c =
    let l = c.loop-doc in
    let view = tree_document g.N.StructName.shown in
    record {
      rest = visit_leaves view (λ d. normal (view d)) l.doc-index l.docs _ c.doc-item.result c.normalize.new.self l.invariant.rest c.loop-doc-test.true c.doc-item.is;
      done = visited view (λ d. normal (view d)) l.doc-index l.docs _ c.doc-item.result c.normalize.new.self l.invariant.rest c.loop-doc-test.true c.doc-item.is l.invariant.done
          (c.normalize.ensures ∙ ap (λ d. normal (view d)) (sym c.doc-item.is));
    }

pub normalize_pairs-loop-key-preserved : goal.normalize_pairs-loop-key-preserved
normalize_pairs-loop-key-preserved g t c =
    let l = c.loop-key in
    let tree = tree_document g.N.StructName.shown in
    let view = pair_view g.N.StructName.shown in
    let item = c.pairs-item.result in
    let new : Tree _ × Tree _ = (c.normalize.new.self, c.normalize-in-loop-key.new.self) in
    let key : tree new.0 ≡ normal (tree item.0) = c.normalize.ensures ∙ ap (λ p. normal (tree p.0)) (sym c.pairs-item.is) in
    let value : tree new.1 ≡ normal (tree item.1) = c.normalize-in-loop-key.ensures ∙ ap (λ p. normal (tree p.1)) (sym c.pairs-item.is) in
    let then : Tree _ × Tree _ → Document × Document = λ p. (normal (view p).0, normal (view p).1) in
    record {
      rest = visit_leaves view then l.key-index l.pairs _ item new l.invariant.rest c.loop-key-test.true c.pairs-item.is;
      done = visited view then l.key-index l.pairs _ item new l.invariant.rest c.loop-key-test.true c.pairs-item.is l.invariant.done (rw (key, value) refl);
    }

pub normalize_fields-loop-value-preserved : goal.normalize_fields-loop-value-preserved
normalize_fields-loop-value-preserved g t c =
    let l = c.loop-value in
    let tree = tree_document g.N.StructName.shown in
    let view = field_view g.N.StructName.shown in
    let item = c.fields-item.result in
    let new : String Global × Tree _ = ((get_or l.fields l.value-index item).0, c.normalize.new.self) in
    let value : tree new.1 ≡ normal (tree item.1) = c.normalize.ensures ∙ ap (λ f. normal (tree f.1)) (sym c.fields-item.is) in
    let name : string_bytes new.0 ≡ string_bytes item.0 = ap (λ f. string_bytes f.0) (sym c.fields-item.is) in
    let then : String Global × Tree _ → List ℕ × Document = λ f. ((view f).0, normal (view f).1) in
    record {
      rest = visit_leaves view then l.value-index l.fields _ item new l.invariant.rest c.loop-value-test.true c.fields-item.is;
      done = visited view then l.value-index l.fields _ item new l.invariant.rest c.loop-value-test.true c.fields-item.is l.invariant.done (rw (name, value) refl);
    }

-- a block keeps its kind, and its vector holds what the entries became
pub Tree::normalize-returns-in-SetOf : goal.Tree::normalize-returns-in-SetOf
Tree::normalize-returns-in-SetOf g t c =
    let shown = g.N.StructName.shown in
    let old = c.in-SetOf.entries in
    let run = c.normalize_all-in-SetOf in
    let seen = c.deref_mut-in-SetOf.ensures.value ∙ ap (λ v. v.items) c.in-SetOf.entries-is in
    let tested : false ≡ (vec_len old == 0) = c.if-not-is_empty.ensures ∙ ap (λ v. vec_len v == 0) c.in-SetOf.entries-is in
    rw (c.in-SetOf.is, ← rolls-SetOf old, out-roll-Tree _ (SetOf old), rolls-SetOf old)
    (tree_document-SetOf shown (with_items old run.new.docs)
    ∙ ap set_of (became (λ ds. documents (map (tree_document shown) ds)) normal_all old run.new.docs _ run.auto.docs seen run.ensures)
    ∙ sym (set_filled shown _ old refl tested))

pub Tree::normalize-returns-in-MapOf : goal.Tree::normalize-returns-in-MapOf
Tree::normalize-returns-in-MapOf g t c =
    let shown = g.N.StructName.shown in
    let old = c.in-MapOf.pairs in
    let run = c.normalize_pairs in
    let seen = c.deref_mut-in-MapOf.ensures.value ∙ ap (λ v. v.items) c.in-MapOf.pairs-is in
    rw (c.in-MapOf.is, ← rolls-MapOf old, out-roll-Tree _ (MapOf old), rolls-MapOf old)
    (tree_document-MapOf shown (with_items old run.new.pairs)
    ∙ ap map_of (became (λ ps. pairs_of (map (pair_view shown) ps)) normal_pairs old run.new.pairs _ run.auto.pairs seen run.ensures)
    ∙ sym (map_form shown _ old refl))

tested : {N : Type 0} (shown : N → List ℕ × Bool) (name : N) (fields : Vec (String Global × Tree N) Global) {its_name : N} {its_fields : Vec (String Global × Tree N) Global} {outcome : Bool}
    → its_name ≡ name → its_fields ≡ fields → outcome ≡ ((shown its_name).1 || not (vec_len its_fields == 0)) → ((shown name).1 || not (vec_len fields == 0)) ≡ outcome
tested shown name fields {outcome = outcome} named with is = rw (← named, ← with) (sym is)

pub Tree::normalize-returns-then-has_block : goal.Tree::normalize-returns-then-has_block
Tree::normalize-returns-then-has_block g t c =
    let shown = g.N.StructName.shown in
    let name = c.in-StructOf.name in
    let old = c.in-StructOf.fields in
    let run = c.normalize_fields in
    let seen = c.deref_mut-then-has_block.ensures.value ∙ ap (λ v. v.items) c.in-StructOf.fields-is in
    let tested : ((shown name).1 || not (vec_len old == 0)) ≡ true = tested shown name old c.in-StructOf.name-is c.in-StructOf.fields-is c.has_block.ensures ∙ c.if-has_block.true in
    rw (c.in-StructOf.is, ← rolls-StructOf name old, out-roll-Tree _ (StructOf name old), rolls-StructOf name old)
    (tree_document-StructOf shown name (with_items old run.new.fields)
    ∙ ap (named_struct (shown name)) (became (λ fs. fields_of (map (field_view shown) fs)) normal_fields old run.new.fields _ run.auto.fields seen run.ensures)
    ∙ sym (struct_block shown _ name old refl tested))

pub Tree::normalize-returns-else-is_empty : goal.Tree::normalize-returns-else-is_empty
Tree::normalize-returns-else-is_empty g t c =
    let shown = g.N.StructName.shown in
    let name = c.in-TupleOf.name in
    let old = c.in-TupleOf.fields in
    let run = c.normalize_all-else-is_empty in
    let seen = c.deref_mut-else-is_empty.ensures.value ∙ ap (λ v. v.items) c.in-TupleOf.fields-is in
    let tested : false ≡ (vec_len old == 0) = sym c.if-is_empty.false ∙ c.is_empty-in-TupleOf.ensures ∙ ap (λ v. vec_len v == 0) c.in-TupleOf.fields-is in
    rw (c.in-TupleOf.is, ← rolls-TupleOf name old, out-roll-Tree _ (TupleOf name old), rolls-TupleOf name old)
    (tree_document-TupleOf shown name (with_items old run.new.docs)
    ∙ ap (tuple_of (string_bytes name)) (became (λ ds. documents (map (tree_document shown) ds)) normal_all old run.new.docs _ run.auto.docs seen run.ensures)
    ∙ sym (tuple_form shown false _ name old refl tested))

-- a block without entries becomes another document
pub Tree::normalize-returns-in-SetOf-2 : goal.Tree::normalize-returns-in-SetOf-2
Tree::normalize-returns-in-SetOf-2 g t c =
    let shown = g.N.StructName.shown in
    let empty : true ≡ (vec_len c.in-SetOf.entries == 0) = c.if-not-is_empty.ensures ∙ ap (λ v. vec_len v == 0) c.in-SetOf.entries-is in
    ap (tree_document shown) c.replace.ensures.after ∙ tree_document-MapOf shown c.new.result
    ∙ ap (λ ps. map_of (pairs_of (map (pair_view shown) ps))) c.new.ensures.items ∙ sym (set_empty shown _ c.in-SetOf.entries c.in-SetOf.is empty)

pub Tree::normalize-returns-else-has_block : goal.Tree::normalize-returns-else-has_block
Tree::normalize-returns-else-has_block g t c =
    let shown = g.N.StructName.shown in
    let name = c.in-StructOf.name in
    let fields = c.in-StructOf.fields in
    let none = tested shown name fields c.in-StructOf.name-is c.in-StructOf.fields-is c.has_block.ensures ∙ c.if-has_block.false in
    ap (tree_document shown) c.replace-else-has_block.ensures.after ∙ tree_document-Leaf shown c.take_text-name.result
    ∙ ap leaf (c.take_text-name.ensures.text ∙ ap (λ n. (shown n).0) c.in-StructOf.name-is) ∙ sym (struct_leaf shown _ name fields c.in-StructOf.is none)

pub Tree::normalize-returns-then-is_empty : goal.Tree::normalize-returns-then-is_empty
Tree::normalize-returns-then-is_empty g t c =
    let shown = g.N.StructName.shown in
    let name = c.in-TupleOf.name in
    let fields = c.in-TupleOf.fields in
    let empty : true ≡ (vec_len fields == 0) = sym c.if-is_empty.true ∙ c.is_empty-in-TupleOf.ensures ∙ ap (λ v. vec_len v == 0) c.in-TupleOf.fields-is in
    ap (tree_document shown) c.replace-then-is_empty.ensures.after ∙ tree_document-Leaf shown c.replace-name.result
    ∙ ap (λ n. leaf (string_bytes n)) (c.replace-name.ensures.value ∙ c.in-TupleOf.name-is) ∙ sym (tuple_form shown true _ name fields c.in-TupleOf.is empty)
