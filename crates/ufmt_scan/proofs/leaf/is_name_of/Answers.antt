use Rattle.std.proofs.Common.{ap, ◌∙◌}
use Rattle.ufmt_grammar.specs.Reading.{read_name}
use Rattle.ufmt_scan.proofs.Leaves.{name_tested}
use Rattle.ufmt_scan.proofs.leaf.is_name_of.Goals as goal

pub returns-in-Some : goal.returns-in-Some
returns-in-Some c = name_tested c.args.class c.args.text.now _ _ _ (c.in-Some.ensures ∙ ap (read_name c.args.class) c.as_bytes.ensures.value) c.is_empty.ensures
