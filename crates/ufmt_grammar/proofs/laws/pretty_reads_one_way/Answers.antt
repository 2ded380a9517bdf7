use Rattle.ufmt_grammar.proofs.OneWay.{pretty_reads_one_way}
use Rattle.ufmt_grammar.proofs.laws.pretty_reads_one_way.Goals as goal

pub returns : goal.returns
returns c = pretty_reads_one_way
