use Rattle.std.proofs.Common.{sym, ◌∙◌}
use Rattle.std.proofs.lemmas.List.{take_rest}
use Rattle.ufmt_values.proofs.WithoutEntries.{none_with_entries}
use Rattle.ufmt_values.proofs.values.value_at.Goals as goal

pub returns-then-is_without_entries : goal.returns-then-is_without_entries
returns-then-is_without_entries c = none_with_entries c.args.to c.args.text.now c.args.low c.args.bracket c.requires.within c.requires.low c.requires.opens
    (rw take_rest at (sym c.is_without_entries.ensures ∙ c.if-is_without_entries.true))
