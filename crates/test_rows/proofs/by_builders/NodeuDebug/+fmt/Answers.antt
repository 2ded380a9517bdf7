use Rattle.std.proofs.Common.{ap, codes, is_ok}
use Rattle.ufmt.specs.Builder.{struct_view}
use Rattle.ufmt.proofs.Printing.{LaysOut-err, entry, failed, field_between, field_not_begun, finished, is_struct, not_opened, opened, written}
use Rattle.ufmt.specs.ValueDocuments.{number, option_document}
use Rattle.test_rows.specs.declared.by_builders.Node.{out-Node}
use Rattle.test_rows.proofs.Nodes.{document_of, node_document}
use Rattle.test_rows.proofs.by_builders.NodeuDebug.+fmt.Goals as goal

pub returns-in_err-node : goal.returns-in_err-node
returns-in_err-node g t c =
    rw (document_of c.args.self.now) (not_opened is_struct _ c.from_residual.ensures.0 c.in_err-node.was c.debug_struct.follows.holds-at-none)

pub returns-in_err-begin_field : goal.returns-in_err-begin_field
returns-in_err-begin_field g t c =
    rw (document_of c.args.self.now) (LaysOut-err _ c.from_residual-in_err-begin_field.ensures.0
    (opened is_struct c.in_ok-node.ensures.opening
    (failed (entry (field_not_begun c.in_err-begin_field.was (codes "value") (number (out-Node c.args.self.now).value) c.begin_field.follows.holds-at-none)) (search))))

pub returns-in_err-end_field : goal.returns-in_err-end_field
returns-in_err-end_field g t c =
    rw (document_of c.args.self.now) (LaysOut-err _ c.from_residual-in_err-end_field.ensures.0
    (opened is_struct c.in_ok-node.ensures.opening
    (failed (entry (field_between _ (codes "value") c.in_ok-node.ensures.is_open.1
    (ap struct_view (c.begin_field.follows.holds _ (ap is_ok c.in_ok-begin_field.was))) c.in_ok-begin_field.ensures.lead
    c.fmt-outcome.ensures c.in_err-end_field.ensures.end)) (search))))

pub returns-in_err-begin_field-2 : goal.returns-in_err-begin_field-2
returns-in_err-begin_field-2 g t c =
    rw (document_of c.args.self.now) (LaysOut-err _ c.from_residual-in_err-begin_field-2.ensures.0
    (opened is_struct c.in_ok-node.ensures.opening
    (written (entry (field_between _ (codes "value") c.in_ok-node.ensures.is_open.1
    (ap struct_view (c.begin_field.follows.holds _ (ap is_ok c.in_ok-begin_field.was))) c.in_ok-begin_field.ensures.lead
    c.fmt-outcome.ensures c.in_ok-end_field.ensures.end))
    (failed (entry (field_not_begun c.in_err-begin_field-2.was (codes "next") (option_document (λ b. node_document b.value) (out-Node c.args.self.now).next) c.begin_field-2.follows.holds-at-none)) (search)))))

pub returns-in_err-end_field-2 : goal.returns-in_err-end_field-2
returns-in_err-end_field-2 g t c =
    rw (document_of c.args.self.now) (LaysOut-err _ c.from_residual-in_err-end_field-2.ensures.0
    (opened is_struct c.in_ok-node.ensures.opening
    (written (entry (field_between _ (codes "value") c.in_ok-node.ensures.is_open.1
    (ap struct_view (c.begin_field.follows.holds _ (ap is_ok c.in_ok-begin_field.was))) c.in_ok-begin_field.ensures.lead
    c.fmt-outcome.ensures c.in_ok-end_field.ensures.end))
    (failed (entry (field_between _ (codes "next") c.in_ok-end_field.ensures.is_open.1
    (ap struct_view (c.begin_field-2.follows.holds _ (ap is_ok c.in_ok-begin_field-2.was))) c.in_ok-begin_field-2.ensures.lead
    c.fmt-outcome-2.ensures c.in_err-end_field-2.ensures.end)) (search)))))

pub returns : goal.returns
returns g t c =
    rw (document_of c.args.self.now)
    (opened is_struct c.in_ok-node.ensures.opening
    (written (entry (field_between _ (codes "value") c.in_ok-node.ensures.is_open.1
    (ap struct_view (c.begin_field.follows.holds _ (ap is_ok c.in_ok-begin_field.was))) c.in_ok-begin_field.ensures.lead
    c.fmt-outcome.ensures c.in_ok-end_field.ensures.end))
    (written (entry (field_between _ (codes "next") c.in_ok-end_field.ensures.is_open.1
    (ap struct_view (c.begin_field-2.follows.holds _ (ap is_ok c.in_ok-begin_field-2.was))) c.in_ok-begin_field-2.ensures.lead
    c.fmt-outcome-2.ensures c.in_ok-end_field-2.ensures.end)) (finished c.finish.ensures (search)))))
