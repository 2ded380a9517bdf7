use Rattle.std.proofs.Common.{rules}
use Rattle.ufmt_c.specs.Conversions.{ConvertsText}
use Rattle.ufmt_c.proofs.convert.convert.Goals as goal

pub returns-in-Ok : goal.returns-in-Ok
returns-in-Ok c =
    let some = c.write_converted.ensures.ok (search rules) in
    let writes = c.write_converted.ensures.writes some.0 some.1 in
    ConvertsText.text some.0 some.1 (search (rules, writes))
