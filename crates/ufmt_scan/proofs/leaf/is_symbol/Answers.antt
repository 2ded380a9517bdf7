use Rattle.std.proofs.Common.{ap, ◌∙◌}
use Rattle.ufmt_grammar.specs.declared.class.Class.TheVariants.{Token}
use Rattle.ufmt_grammar.specs.Reading.{read_symbol}
use Rattle.ufmt_scan.proofs.Leaves.{symbol_tested}
use Rattle.ufmt_scan.proofs.leaf.is_symbol.Goals as goal

pub returns-in-Some : goal.returns-in-Some
returns-in-Some c = symbol_tested c.args.text.now _ _ _ (c.in-Some.ensures ∙ ap (read_symbol Token) c.as_bytes.ensures.value) c.is_empty.ensures
