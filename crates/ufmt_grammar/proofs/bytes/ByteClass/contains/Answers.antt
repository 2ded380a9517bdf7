use Rattle.ufmt_grammar.proofs.ByteClasses.{table_says}
use Rattle.ufmt_grammar.proofs.bytes.ByteClass.contains.Goals as goal

pub returns : goal.returns
returns c = table_says c.args.self c.args.byte _ c.bit.ensures
