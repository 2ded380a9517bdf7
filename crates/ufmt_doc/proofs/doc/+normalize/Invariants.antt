-- What was visited has become its normal form, and the rest is as it was.
use Rattle.ufmt.specs.Token.{normal}
use Rattle.ufmt_doc.specs.Doc.{tree_document}
use Rattle.ufmt_doc.specs.DocViews.{pair_view, field_view}
use Rattle.ufmt_doc.proofs.NormalForms.{HasBecome}
use Rattle.ufmt_doc.proofs.doc.+normalize.Given as goal

abbrev pub invariant-normalize_all-loop-doc : goal.invariant-normalize_all-loop-doc
invariant-normalize_all-loop-doc g l = record {
  rest : goal.unvisited-normalize_all-loop-doc g l;
  done : HasBecome (tree_document g.N.StructName.shown) (λ d. normal (tree_document g.N.StructName.shown d)) l.doc-index l.docs l.initial.docs;
}

abbrev pub invariant-normalize_pairs-loop-key : goal.invariant-normalize_pairs-loop-key
invariant-normalize_pairs-loop-key g l = record {
  rest : goal.unvisited-normalize_pairs-loop-key g l;
  done : HasBecome (pair_view g.N.StructName.shown) (λ p. (normal (pair_view g.N.StructName.shown p).0, normal (pair_view g.N.StructName.shown p).1)) l.key-index l.pairs l.initial.pairs;
}

abbrev pub invariant-normalize_fields-loop-value : goal.invariant-normalize_fields-loop-value
invariant-normalize_fields-loop-value g l = record {
  rest : goal.unvisited-normalize_fields-loop-value g l;
  done : HasBecome (field_view g.N.StructName.shown) (λ f. ((field_view g.N.StructName.shown f).0, normal (field_view g.N.StructName.shown f).1)) l.value-index l.fields l.initial.fields;
}
