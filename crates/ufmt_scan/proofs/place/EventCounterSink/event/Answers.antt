use Rattle.std.proofs.Common.{◌∙◌, sym, ap, length, arith}
use Rattle.std.proofs.lemmas.List.{length-append}
use Rattle.ufmt_scan.proofs.Places.{counted_event}
use Rattle.ufmt_scan.proofs.place.EventCounterSink.event.Goals as goal

pub returns : goal.returns
returns c =
    let both = ap length (sym c.pieces.ensures) ∙ length-append c.pieces.result.0.now c.pieces.result.1.now in
    λ start es before. counted_event start _ _ es _ before (omega (arith, both, c.saturating_add.ensures, c.saturating_add-self.ensures)) c.setting_after-self.ensures
