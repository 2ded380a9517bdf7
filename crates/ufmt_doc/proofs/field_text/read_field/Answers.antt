use Rattle.std.proofs.Common.{subst}
use Rattle.ufmt_grammar.specs.declared.class.Class.TheVariants.{Token}
use Rattle.ufmt_core.specs.declared.layout.Mode.TheVariants.{Plain}
use Rattle.ufmt_doc.specs.Doc.{doc_document}
use Rattle.ufmt_doc.specs.FieldTexts.{ShowsField}
use Rattle.ufmt_doc.proofs.ReadForms.{form_is}
use Rattle.ufmt_doc.proofs.field_text.read_field.Goals as goal

pub returns-clause-found : goal.returns-clause-found
returns-clause-found c = (doc_document c.in_ok-doc.doc, c.in_ok-doc.ensures.ok, c.in_ok-field_text.ensures)

pub returns-clause-each : goal.returns-clause-each
returns-clause-each c = λ d token same.
    let is = form_is Token Plain c.args.line.now (doc_document c.in_ok-doc.doc) d c.in_ok-doc.ensures.ok token same in
    subst (λ e. ShowsField c.args.name.now e c.in_ok-field_text.field-0) is c.in_ok-field_text.ensures
