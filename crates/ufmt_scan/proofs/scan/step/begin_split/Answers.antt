use Rattle.std.proofs.Common.{◌∙◌, sym}
use Rattle.ufmt_scan.specs.Private.Scanning.{after}
use Rattle.ufmt_scan.proofs.DocumentParts.{steps_as, with_front, without_front}
use Rattle.ufmt_scan.proofs.scan.step.begin_split.Goals as goal

pub returns-then-is_empty : goal.returns-then-is_empty
returns-then-is_empty g c =
    rw (without_front c.args.level c.args.input.now c.args.front c.requires (sym c.is_empty.ensures ∙ c.if-is_empty.true)) c.begin_without_name.ensures

pub returns-else-is_empty : goal.returns-else-is_empty
returns-else-is_empty g c =
    let front = with_front c.args.level c.args.input.now c.args.front c.requires (sym c.is_empty.ensures ∙ c.if-is_empty.false) in
    steps_as g.S.Sink.took g.S.Sink.stopped c.args.sink.now c.begin_front.new.sink (after c.args.level) _ c.begin_front.result _ front.1 front.0
    c.begin_front.ensures
