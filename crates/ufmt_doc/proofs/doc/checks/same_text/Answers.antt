use Rattle.ufmt_grammar.proofs.OneWay.{plain_text_determines, pretty_text_determines}
use Rattle.ufmt_doc.proofs.Within.{as_well}
use Rattle.ufmt_doc.proofs.doc.checks.same_text.Goals as goal

pub returns-clause-plain : goal.returns-clause-plain
returns-clause-plain g c = λ class a_is_one b_is_one.
    let determines = plain_text_determines class _ _ a_is_one b_is_one in as_well c.is_same.ensures (determines.1, determines.0)

pub returns-clause-pretty : goal.returns-clause-pretty
returns-clause-pretty g c = λ class a_is_one b_is_one.
    let determines = pretty_text_determines class _ _ a_is_one b_is_one in as_well c.is_same.ensures (determines.1, determines.0)
