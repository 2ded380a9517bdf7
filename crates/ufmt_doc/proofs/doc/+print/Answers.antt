use Rattle.std.proofs.Common.{◌∙◌, ap, is_ok, sym, true}
use Rattle.std.proofs.lemmas.Result.{IfErr-at_err}
use Rattle.ufmt.specs.Builder.{list_view, map_view, set_view, struct_view, tuple_view}
use Rattle.ufmt.proofs.Blocks.{WritesEntry-no_value, WritesEntry-pair}
use Rattle.ufmt.proofs.Printing.{LaysOut-err, WritesRow-next, WritesRow-none, entry_between, entry_not_begun, failed, field_between, field_not_begun, finished, is_list, is_map, is_set, is_tuple, loop_ended, loop_next, not_opened, opened, pair_texts-of, texts-of, written}
use Rattle.ufmt_doc.specs.Doc.{tree_document}
use Rattle.ufmt_doc.specs.declared.doc.Tree.TheShapes.{weighed-Tree-StructOf-1-at-2}
use Rattle.ufmt_doc.proofs.FieldSizes.{in_field, value_falls}
use Rattle.ufmt_doc.proofs.doc.Tree.TheLaws.{the_size}
use Rattle.ufmt_doc.proofs.NamedStructs.{dotted_ended, ended, not_begun, stopped}
use Rattle.ufmt_doc.proofs.PairValues.{after_key}
use Rattle.ufmt_doc.proofs.Trees.{tree_document-MapOf, tree_document-StructOf}
use Rattle.ufmt_doc.proofs.doc.+print.Goals as goal

pub print::TreeuDebug::fmt-returns-in-MapOf : goal.print::TreeuDebug::fmt-returns-in-MapOf
print::TreeuDebug::fmt-returns-in-MapOf g t c =
    let shown = g.N.StructName.shown in
    rw (ap (tree_document shown) c.in-MapOf.is ∙ tree_document-MapOf shown c.in-MapOf.pairs, sym c.deref-in-MapOf.ensures.value) c.print_map.ensures

pub print::TreeuDebug::fmt-returns-in-StructOf : goal.print::TreeuDebug::fmt-returns-in-StructOf
print::TreeuDebug::fmt-returns-in-StructOf g t c =
    let shown = g.N.StructName.shown in
    rw (ap (tree_document shown) c.in-StructOf.is ∙ tree_document-StructOf shown c.in-StructOf.name c.in-StructOf.fields, sym c.deref-in-StructOf.ensures.value) c.print_struct.ensures

pub Tree::print_list-returns-in_err-list : goal.Tree::print_list-returns-in_err-list
Tree::print_list-returns-in_err-list g t c = not_opened is_list _ c.from_residual.ensures.0 c.in_err-list.was c.debug_list.follows.holds-at-none

pub Tree::print_list-loop-entry-init : goal.Tree::print_list-loop-entry-init
Tree::print_list-loop-entry-init g t c = record {
  is_open = c.in_ok-list.ensures.is_open;
  row = WritesRow-none _ _ c.in_ok-list.ensures.is_open;
}

pub Tree::print_list-returns-in_err-begin_entry : goal.Tree::print_list-returns-in_err-begin_entry
Tree::print_list-returns-in_err-begin_entry g t c =
    LaysOut-err _ c.from_residual-in_err-begin_entry.ensures.0
    (opened is_list c.in_ok-list.ensures.opening
    (failed (loop_next _ (texts-of (tree_document g.N.StructName.shown) _) c.loop-entry.entry-index c.loop-entry-test.true c.entry-item.is c.loop-entry.invariant.row
    (entry_not_begun c.in_err-begin_entry.was c.begin_entry.follows.holds-at-none)) (search)))

pub Tree::print_list-returns-in_err-end_entry : goal.Tree::print_list-returns-in_err-end_entry
Tree::print_list-returns-in_err-end_entry g t c =
    LaysOut-err _ c.from_residual-in_err-end_entry.ensures.0
    (opened is_list c.in_ok-list.ensures.opening
    (failed (loop_next _ (texts-of (tree_document g.N.StructName.shown) _) c.loop-entry.entry-index c.loop-entry-test.true c.entry-item.is c.loop-entry.invariant.row
    (entry_between (list_view c.loop-entry.list) c.loop-entry.invariant.is_open.1 (ap list_view (c.begin_entry.follows.holds _ (ap is_ok c.in_ok-begin_entry.was)))
    c.in_ok-begin_entry.ensures.lead c.fmt-outcome.ensures c.in_err-end_entry.ensures.end)) (search)))

pub Tree::print_list-loop-entry-preserved : goal.Tree::print_list-loop-entry-preserved
Tree::print_list-loop-entry-preserved g t c = record {
  is_open = c.in_ok-end_entry.ensures.is_open;
  row = WritesRow-next _ _ c.loop-entry.entry-index _ true c.loop-entry-test.true c.entry-item.is c.loop-entry.invariant.row
      (entry_between (list_view c.loop-entry.list) c.loop-entry.invariant.is_open.1 (ap list_view (c.begin_entry.follows.holds _ (ap is_ok c.in_ok-begin_entry.was)))
      c.in_ok-begin_entry.ensures.lead c.fmt-outcome.ensures c.in_ok-end_entry.ensures.end);
}

pub Tree::print_list-returns : goal.Tree::print_list-returns
Tree::print_list-returns g t c =
    opened is_list c.in_ok-list.ensures.opening
    (written (loop_ended _ (texts-of (tree_document g.N.StructName.shown) _) c.loop-entry.entry-index c.loop-entry-test.false c.loop-entry.invariant.row) (finished c.finish.ensures (search)))

pub Tree::print_set-returns-in_err-set : goal.Tree::print_set-returns-in_err-set
Tree::print_set-returns-in_err-set g t c = not_opened is_set _ c.from_residual.ensures.0 c.in_err-set.was c.debug_set.follows.holds-at-none

pub Tree::print_set-loop-entry-init : goal.Tree::print_set-loop-entry-init
Tree::print_set-loop-entry-init g t c = record {
  is_open = c.in_ok-set.ensures.is_open;
  row = WritesRow-none _ _ c.in_ok-set.ensures.is_open;
}

pub Tree::print_set-returns-in_err-begin_entry : goal.Tree::print_set-returns-in_err-begin_entry
Tree::print_set-returns-in_err-begin_entry g t c =
    LaysOut-err _ c.from_residual-in_err-begin_entry.ensures.0
    (opened is_set c.in_ok-set.ensures.opening
    (failed (loop_next _ (texts-of (tree_document g.N.StructName.shown) _) c.loop-entry.entry-index c.loop-entry-test.true c.entry-item.is c.loop-entry.invariant.row
    (entry_not_begun c.in_err-begin_entry.was c.begin_entry.follows.holds-at-none)) (search)))

pub Tree::print_set-returns-in_err-end_entry : goal.Tree::print_set-returns-in_err-end_entry
Tree::print_set-returns-in_err-end_entry g t c =
    LaysOut-err _ c.from_residual-in_err-end_entry.ensures.0
    (opened is_set c.in_ok-set.ensures.opening
    (failed (loop_next _ (texts-of (tree_document g.N.StructName.shown) _) c.loop-entry.entry-index c.loop-entry-test.true c.entry-item.is c.loop-entry.invariant.row
    (entry_between (set_view c.loop-entry.set) c.loop-entry.invariant.is_open.1 (ap set_view (c.begin_entry.follows.holds _ (ap is_ok c.in_ok-begin_entry.was)))
    c.in_ok-begin_entry.ensures.lead c.fmt-outcome.ensures c.in_err-end_entry.ensures.end)) (search)))

pub Tree::print_set-loop-entry-preserved : goal.Tree::print_set-loop-entry-preserved
Tree::print_set-loop-entry-preserved g t c = record {
  is_open = c.in_ok-end_entry.ensures.is_open;
  row = WritesRow-next _ _ c.loop-entry.entry-index _ true c.loop-entry-test.true c.entry-item.is c.loop-entry.invariant.row
      (entry_between (set_view c.loop-entry.set) c.loop-entry.invariant.is_open.1 (ap set_view (c.begin_entry.follows.holds _ (ap is_ok c.in_ok-begin_entry.was)))
      c.in_ok-begin_entry.ensures.lead c.fmt-outcome.ensures c.in_ok-end_entry.ensures.end);
}

pub Tree::print_set-returns : goal.Tree::print_set-returns
Tree::print_set-returns g t c =
    opened is_set c.in_ok-set.ensures.opening
    (written (loop_ended _ (texts-of (tree_document g.N.StructName.shown) _) c.loop-entry.entry-index c.loop-entry-test.false c.loop-entry.invariant.row) (finished c.finish.ensures (search)))

pub Tree::print_map-returns-in_err-map : goal.Tree::print_map-returns-in_err-map
Tree::print_map-returns-in_err-map g t c = not_opened is_map _ c.from_residual.ensures.0 c.in_err-map.was c.debug_map.follows.holds-at-none

pub Tree::print_map-loop-key-init : goal.Tree::print_map-loop-key-init
Tree::print_map-loop-key-init g t c = record {
  is_open = c.in_ok-map.ensures.is_open;
  row = WritesRow-none _ _ c.in_ok-map.ensures.is_open;
}

pub Tree::print_map-returns-in_err-begin_entry : goal.Tree::print_map-returns-in_err-begin_entry
Tree::print_map-returns-in_err-begin_entry g t c =
    LaysOut-err _ c.from_residual-in_err-begin_entry.ensures.0
    (opened is_map c.in_ok-map.ensures.opening
    (failed (loop_next _ (pair_texts-of (λ p. tree_document g.N.StructName.shown p.0) (λ p. tree_document g.N.StructName.shown p.1) _) c.loop-key.key-index c.loop-key-test.true c.loop-key-item.is c.loop-key.invariant.row
    (entry_not_begun c.in_err-begin_entry.was c.begin_entry.follows.holds-at-none)) (search)))

pub Tree::print_map-returns-in_err-begin_value : goal.Tree::print_map-returns-in_err-begin_value
Tree::print_map-returns-in_err-begin_value g t c =
    let lent = ap map_view (c.begin_entry.follows.holds c.fmt-key_outcome.new.f (ap is_ok c.in_ok-begin_entry.was)) in
    let left = IfErr-at_err _ c.in_err-begin_value.was c.begin_value.follows.holds-at-none in
    LaysOut-err _ c.from_residual-in_err-begin_value.ensures.0
    (opened is_map c.in_ok-map.ensures.opening
    (failed (loop_next _ (pair_texts-of (λ p. tree_document g.N.StructName.shown p.0) (λ p. tree_document g.N.StructName.shown p.1) _) c.loop-key.key-index c.loop-key-test.true c.loop-key-item.is c.loop-key.invariant.row
    (WritesEntry-no_value (map_view c.loop-key.map) c.fmt-key_outcome.new.f _ (tree_document g.N.StructName.shown c.loop-key-item.result.1) _ c.loop-key.invariant.is_open.1 lent
    c.in_ok-begin_entry.ensures.lead c.fmt-key_outcome.ensures left.0 left.1)) (search)))

pub Tree::print_map-returns-in_err-end_entry : goal.Tree::print_map-returns-in_err-end_entry
Tree::print_map-returns-in_err-end_entry g t c =
    let lent = ap map_view (c.begin_entry.follows.holds c.fmt-key_outcome.new.f (ap is_ok c.in_ok-begin_entry.was)) in
    let began = ap is_ok c.in_ok-begin_value.was in
    let lent_value = ap map_view (c.begin_value.follows.holds c.fmt-outcome.new.f began) in
    let colon = after_key (map_view c.loop-key.map) c.loop-key.invariant.is_open.1 lent c.in_ok-begin_entry.ensures.lead c.fmt-key_outcome.ensures c.in_ok-begin_value.ensures.colon in
    let pair_written = WritesEntry-pair (map_view c.loop-key.map) {new = map_view c.end_entry.new.self} c.fmt-key_outcome.new.f _ _ c.fmt-outcome.new.f _ _ _ c.begin_value.result
    c.loop-key.invariant.is_open.1 lent c.in_ok-begin_entry.ensures.lead c.fmt-key_outcome.ensures c.begin_value.ensures.error began lent_value colon
    c.fmt-outcome.ensures c.in_err-end_entry.ensures.end in
    LaysOut-err _ c.from_residual-in_err-end_entry.ensures.0
    (opened is_map c.in_ok-map.ensures.opening
    (failed (loop_next _ (pair_texts-of (λ p. tree_document g.N.StructName.shown p.0) (λ p. tree_document g.N.StructName.shown p.1) _) c.loop-key.key-index c.loop-key-test.true c.loop-key-item.is c.loop-key.invariant.row pair_written) (search)))

pub Tree::print_map-loop-key-preserved : goal.Tree::print_map-loop-key-preserved
Tree::print_map-loop-key-preserved g t c =
    let lent = ap map_view (c.begin_entry.follows.holds c.fmt-key_outcome.new.f (ap is_ok c.in_ok-begin_entry.was)) in
    let began = ap is_ok c.in_ok-begin_value.was in
    let lent_value = ap map_view (c.begin_value.follows.holds c.fmt-outcome.new.f began) in
    let colon = after_key (map_view c.loop-key.map) c.loop-key.invariant.is_open.1 lent c.in_ok-begin_entry.ensures.lead c.fmt-key_outcome.ensures c.in_ok-begin_value.ensures.colon in
    let pair_written = WritesEntry-pair (map_view c.loop-key.map) {new = map_view c.end_entry.new.self} c.fmt-key_outcome.new.f _ _ c.fmt-outcome.new.f _ _ _ c.begin_value.result
    c.loop-key.invariant.is_open.1 lent c.in_ok-begin_entry.ensures.lead c.fmt-key_outcome.ensures c.begin_value.ensures.error began lent_value colon
    c.fmt-outcome.ensures c.in_ok-end_entry.ensures.end in
    record {
      is_open = c.in_ok-end_entry.ensures.is_open;
      row = WritesRow-next _ _ c.loop-key.key-index _ true c.loop-key-test.true c.loop-key-item.is c.loop-key.invariant.row pair_written;
    }

pub Tree::print_map-returns : goal.Tree::print_map-returns
Tree::print_map-returns g t c =
    opened is_map c.in_ok-map.ensures.opening
    (written (loop_ended _ (pair_texts-of (λ p. tree_document g.N.StructName.shown p.0) (λ p. tree_document g.N.StructName.shown p.1) _) c.loop-key.key-index c.loop-key-test.false c.loop-key.invariant.row)
    (finished c.finish.ensures (search)))

pub Tree::print_struct-returns-in_err-builder : goal.Tree::print_struct-returns-in_err-builder
Tree::print_struct-returns-in_err-builder g t c =
    not_begun _ _ (g.N.StructName.shown c.args.name.now) c.as_str.ensures c.from_residual.ensures.0 c.in_err-builder.was c.debug_struct.follows.holds-at-none

pub Tree::print_struct-loop-field-init : goal.Tree::print_struct-loop-field-init
Tree::print_struct-loop-field-init g t c = record {
  is_open = c.in_ok-builder.ensures.is_open;
  row = WritesRow-none _ _ c.in_ok-builder.ensures.is_open;
}

pub Tree::print_struct-returns-in_err-begin_field : goal.Tree::print_struct-returns-in_err-begin_field
Tree::print_struct-returns-in_err-begin_field g t c =
    LaysOut-err _ c.from_residual-in_err-begin_field.ensures.0
    (stopped (tree_document g.N.StructName.shown) _ c.loop-field.field-index (g.N.StructName.shown c.args.name.now) c.as_str.ensures c.in_ok-builder.ensures.opening
    c.loop-field-test.true c.field-item.is c.loop-field.invariant.row
    (rw c.deref.ensures at (field_not_begun c.in_err-begin_field.was _ (tree_document g.N.StructName.shown c.field-item.result.1) c.begin_field.follows.holds-at-none)) (search))

pub Tree::print_struct-returns-in_err-end_field : goal.Tree::print_struct-returns-in_err-end_field
Tree::print_struct-returns-in_err-end_field g t c =
    LaysOut-err _ c.from_residual-in_err-end_field.ensures.0
    (stopped (tree_document g.N.StructName.shown) _ c.loop-field.field-index (g.N.StructName.shown c.args.name.now) c.as_str.ensures c.in_ok-builder.ensures.opening
    c.loop-field-test.true c.field-item.is c.loop-field.invariant.row
    (rw c.deref.ensures at (field_between (struct_view c.loop-field.builder) _ c.loop-field.invariant.is_open.1 (ap struct_view (c.begin_field.follows.holds _
    (ap is_ok c.in_ok-begin_field.was))) c.in_ok-begin_field.ensures.lead c.fmt-outcome.ensures c.in_err-end_field.ensures.end)) (search))

pub Tree::print_struct-loop-field-preserved : goal.Tree::print_struct-loop-field-preserved
Tree::print_struct-loop-field-preserved g t c = record {
  is_open = c.in_ok-end_field.ensures.is_open;
  row = WritesRow-next _ _ c.loop-field.field-index _ true c.loop-field-test.true c.field-item.is c.loop-field.invariant.row
      (rw c.deref.ensures at (field_between (struct_view c.loop-field.builder) _ c.loop-field.invariant.is_open.1 (ap struct_view (c.begin_field.follows.holds _
      (ap is_ok c.in_ok-begin_field.was))) c.in_ok-begin_field.ensures.lead c.fmt-outcome.ensures c.in_ok-end_field.ensures.end));
}

pub Tree::print_struct-returns-then-ends_in_dots : goal.Tree::print_struct-returns-then-ends_in_dots
Tree::print_struct-returns-then-ends_in_dots g t c =
    dotted_ended (tree_document g.N.StructName.shown) _ c.loop-field.field-index (g.N.StructName.shown c.args.name.now) c.as_str.ensures (sym c.ends_in_dots.ensures ∙ c.if-ends_in_dots.true)
    c.in_ok-builder.ensures.opening c.loop-field-test.false c.loop-field.invariant.row c.finish_non_exhaustive.ensures (search)

pub Tree::print_struct-returns-else-ends_in_dots : goal.Tree::print_struct-returns-else-ends_in_dots
Tree::print_struct-returns-else-ends_in_dots g t c =
    ended (tree_document g.N.StructName.shown) _ c.loop-field.field-index (g.N.StructName.shown c.args.name.now) c.as_str.ensures (sym c.ends_in_dots.ensures ∙ c.if-ends_in_dots.false)
    c.in_ok-builder.ensures.opening c.loop-field-test.false c.loop-field.invariant.row c.finish.ensures (search)

pub Tree::print_tuple-returns-in_err-tuple : goal.Tree::print_tuple-returns-in_err-tuple
Tree::print_tuple-returns-in_err-tuple g t c = not_opened is_tuple _ c.from_residual.ensures.0 c.in_err-tuple.was c.debug_tuple.follows.holds-at-none

pub Tree::print_tuple-loop-value-init : goal.Tree::print_tuple-loop-value-init
Tree::print_tuple-loop-value-init g t c = record {
  is_open = c.in_ok-tuple.ensures.is_open;
  row = WritesRow-none _ _ c.in_ok-tuple.ensures.is_open;
}

pub Tree::print_tuple-returns-in_err-begin_field : goal.Tree::print_tuple-returns-in_err-begin_field
Tree::print_tuple-returns-in_err-begin_field g t c =
    LaysOut-err _ c.from_residual-in_err-begin_field.ensures.0
    (opened is_tuple c.in_ok-tuple.ensures.opening
    (failed (loop_next _ (texts-of (tree_document g.N.StructName.shown) _) c.loop-value.value-index c.loop-value-test.true c.value-item.is c.loop-value.invariant.row
    (entry_not_begun c.in_err-begin_field.was c.begin_field.follows.holds-at-none)) (search)))

pub Tree::print_tuple-returns-in_err-end_field : goal.Tree::print_tuple-returns-in_err-end_field
Tree::print_tuple-returns-in_err-end_field g t c =
    LaysOut-err _ c.from_residual-in_err-end_field.ensures.0
    (opened is_tuple c.in_ok-tuple.ensures.opening
    (failed (loop_next _ (texts-of (tree_document g.N.StructName.shown) _) c.loop-value.value-index c.loop-value-test.true c.value-item.is c.loop-value.invariant.row
    (entry_between (tuple_view c.loop-value.tuple) c.loop-value.invariant.is_open.1 (ap tuple_view (c.begin_field.follows.holds _ (ap is_ok c.in_ok-begin_field.was)))
    c.in_ok-begin_field.ensures.lead c.fmt-outcome.ensures c.in_err-end_field.ensures.end)) (search)))

pub Tree::print_tuple-loop-value-preserved : goal.Tree::print_tuple-loop-value-preserved
Tree::print_tuple-loop-value-preserved g t c = record {
  is_open = c.in_ok-end_field.ensures.is_open;
  row = WritesRow-next _ _ c.loop-value.value-index _ true c.loop-value-test.true c.value-item.is c.loop-value.invariant.row
      (entry_between (tuple_view c.loop-value.tuple) c.loop-value.invariant.is_open.1 (ap tuple_view (c.begin_field.follows.holds _ (ap is_ok c.in_ok-begin_field.was)))
      c.in_ok-begin_field.ensures.lead c.fmt-outcome.ensures c.in_ok-end_field.ensures.end);
}

pub Tree::print_tuple-returns : goal.Tree::print_tuple-returns
Tree::print_tuple-returns g t c =
    opened is_tuple c.in_ok-tuple.ensures.opening
    (written (loop_ended _ (texts-of (tree_document g.N.StructName.shown) _) c.loop-value.value-index c.loop-value-test.false c.loop-value.invariant.row) (finished c.finish.ensures (search)))

pub Tree::print_struct-fmt-outcome-requires : goal.Tree::print_struct-fmt-outcome-requires
Tree::print_struct-fmt-outcome-requires g t c = λ κs lives. (value_falls (λ f. the_size g.row.N g.N.laws f.1) ((weighed-Tree-StructOf-1-at-2 g.row.N.Denot).weight _ (the_size g.row.N g.N.laws)) (λ f. in_field _) c.args.fields.now c.loop-field.field-index c.field-item.result t c.loop-field-test.true c.field-item.is c.decreases, lives)
