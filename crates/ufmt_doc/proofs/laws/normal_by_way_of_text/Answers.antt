use Rattle.std.proofs.Common.{rules}
use Rattle.ufmt_doc.specs.Doc.{debug_document}
use Rattle.ufmt_doc.proofs.ReadForms.{read_again}
use Rattle.ufmt_doc.proofs.laws.normal_by_way_of_text.Goals as goal

pub returns-clause-ok : goal.returns-clause-ok
returns-clause-ok g c = λ is_one. read_again c.args.class debug_document c.args.mode c.read_text.result _ _ is_one (search rules) c.read_text.ensures.ok
