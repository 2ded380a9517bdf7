use Rattle.ufmt_values.proofs.WithoutEntries.{bracket_opens}
use Rattle.ufmt_values.proofs.field.value_with.Goals as goal

pub value_at-requires-clause-opens : goal.value_at-requires-clause-opens
value_at-requires-clause-opens c = bracket_opens c.args.line.now c.args.low c.args.bracket c.requires.low c.requires.next c.requires.within
