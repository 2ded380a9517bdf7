-- The entries so far were written, and the block is open.
use Rattle.std.proofs.Common.{string_bytes, take, true}
use Rattle.ufmt.specs.BuilderView.{IsOpen, WritesRow, entry_text, field_text, pair_text}
use Rattle.ufmt.specs.Builder.{list_view, map_view, set_view, struct_view, tuple_view}
use Rattle.ufmt_doc.specs.Doc.{tree_document}
use Rattle.ufmt_doc.proofs.doc.+print.Given as goal

abbrev pub invariant-Tree::print_list-loop-entry : goal.invariant-Tree::print_list-loop-entry
invariant-Tree::print_list-loop-entry g l = record {
  is_open : IsOpen (list_view l.list);
  row : WritesRow g.W.uWrite.seen (list_view l.initial.list) (λ x. entry_text (tree_document g.N.StructName.shown x)) (take l.entry-index l.fn.entries) true (list_view l.list);
}

abbrev pub invariant-Tree::print_set-loop-entry : goal.invariant-Tree::print_set-loop-entry
invariant-Tree::print_set-loop-entry g l = record {
  is_open : IsOpen (set_view l.set);
  row : WritesRow g.W.uWrite.seen (set_view l.initial.set) (λ x. entry_text (tree_document g.N.StructName.shown x)) (take l.entry-index l.fn.entries) true (set_view l.set);
}

abbrev pub invariant-Tree::print_map-loop-key : goal.invariant-Tree::print_map-loop-key
invariant-Tree::print_map-loop-key g l = record {
  is_open : IsOpen (map_view l.map);
  row : WritesRow g.W.uWrite.seen (map_view l.initial.map) (λ x. pair_text (tree_document g.N.StructName.shown x.0) (tree_document g.N.StructName.shown x.1)) (take l.key-index l.fn.pairs) true (map_view l.map);
}

abbrev pub invariant-Tree::print_struct-loop-field : goal.invariant-Tree::print_struct-loop-field
invariant-Tree::print_struct-loop-field g l = record {
  is_open : IsOpen (struct_view l.builder);
  row : WritesRow g.W.uWrite.seen (struct_view l.initial.builder) (λ x. field_text (string_bytes x.0) (tree_document g.N.StructName.shown x.1)) (take l.field-index l.fn.fields) true (struct_view l.builder);
}

abbrev pub invariant-Tree::print_tuple-loop-value : goal.invariant-Tree::print_tuple-loop-value
invariant-Tree::print_tuple-loop-value g l = record {
  is_open : IsOpen (tuple_view l.tuple);
  row : WritesRow g.W.uWrite.seen (tuple_view l.initial.tuple) (λ x. entry_text (tree_document g.N.StructName.shown x)) (take l.value-index l.fn.fields) true (tuple_view l.tuple);
}
