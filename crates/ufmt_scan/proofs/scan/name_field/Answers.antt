use Rattle.std.proofs.Common.{◌-◌, length, refl, arith}
use Rattle.ufmt_scan.specs.Private.Scanning.{level_at}
use Rattle.ufmt_scan.proofs.OpenSteps.{around, field_stage, named_scans}
use Rattle.ufmt_scan.proofs.scan.name_field.Goals as goal

pub returns-in-FieldFirst-clause-emitted : goal.returns-in-FieldFirst-clause-emitted
returns-in-FieldFirst-clause-emitted g c = λ outer whole.
    let count = c.args.blocks.count in
    named_scans c.args.class c.args.mode outer whole count c.args.blocks.innermost (omega arith) (count - 1) (omega (arith, c.requires (field_stage c.in-FieldFirst.is))) (field_stage c.in-FieldFirst.is)
    g.S.Sink.took g.S.Sink.stopped c.args.sink.now c.field_name.new.sink c.args.input.now c.field_name.result (c.field_name.ensures.emitted (level_at c.args.class c.args.mode (length (around outer (count - 1)))) refl)
