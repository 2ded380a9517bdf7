use Rattle.std.proofs.lemmas.Simd.{map-map}
use Rattle.example_print.specs.declared.recursive.Json.TheVariants.{rolls-Object, rolls-Table}
use Rattle.example_print.specs.declared.recursive.Json.TheFolds.{fold-roll-Json}
use Rattle.example_print.proofs.recursive.JsonuDebug.+fmt.Goals as goal

pub returns-in-Object : goal.returns-in-Object
returns-in-Object g t c = rw (c.in-Object.is, ← rolls-Object c.in-Object.pairs, fold-roll-Json, map-map) c.fields-in-Object.ensures.lays_out

pub returns-in-Table : goal.returns-in-Table
returns-in-Table g t c = rw (c.in-Table.is, ← rolls-Table c.in-Table.values, fold-roll-Json, map-map) c.fields-in-Table.ensures.lays_out
