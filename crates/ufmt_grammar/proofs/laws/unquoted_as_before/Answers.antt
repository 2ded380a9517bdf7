use Rattle.ufmt_grammar.proofs.Unquoted.{unquoted_as_before}
use Rattle.ufmt_grammar.proofs.laws.unquoted_as_before.Goals as goal

pub returns : goal.returns
returns c = unquoted_as_before
