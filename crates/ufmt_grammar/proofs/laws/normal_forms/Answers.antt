use Rattle.ufmt_grammar.proofs.NormalForms.{normal-normal, layout-normal, IsDocument-normal}
use Rattle.ufmt_grammar.proofs.laws.normal_forms.Goals as goal

pub returns-clause-normal : goal.returns-clause-normal
returns-clause-normal c = normal-normal

pub returns-clause-same_text : goal.returns-clause-same_text
returns-clause-same_text c = layout-normal

pub returns-clause-class : goal.returns-clause-class
returns-clause-class c = IsDocument-normal
