use Rattle.ufmt_grammar.proofs.OneWay.{plain_reads_one_way}
use Rattle.ufmt_grammar.proofs.laws.plain_reads_one_way.Goals as goal

pub returns : goal.returns
returns c = plain_reads_one_way
