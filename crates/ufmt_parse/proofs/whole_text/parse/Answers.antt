use Rattle.ufmt.specs.Layout.{setting}
use Rattle.ufmt_grammar.specs.declared.class.Class.TheVariants.{Debug}
use Rattle.ufmt_core.specs.declared.layout.Mode.TheVariants.{Plain}
use Rattle.ufmt_grammar.proofs.OneWay.{plain_text_determines}
use Rattle.ufmt_parse.proofs.Forms.{form_of}
use Rattle.ufmt_parse.proofs.whole_text.parse.Goals as goal

pub returns-clause-form : goal.returns-clause-form
returns-clause-form g c =
    form_of g.T.uDebug.document (setting Plain 0) (plain_text_determines Debug) c.args.text.now c.parse_whole.result c.parse_whole.ensures.ok c.parse_whole.ensures.debug
