use Rattle.std.proofs.Common.{refl, false}
use Rattle.ufmt_core.proofs.Writing.{Writes-fails, Writes-then, is_ok-err}
use Rattle.ufmt_scan.proofs.TextSinks.{takes_event}
use Rattle.ufmt_scan.proofs.convert.text_sink.TextSinkSink.event.Goals as goal

pub returns-in_err-write_piece : goal.returns-in_err-write_piece
returns-in_err-write_piece g c = rw (is_ok-err _ c.from_residual.ensures.0) (takes_event g.W.uWrite.seen g.M.ParseMode.mode c.mode.result c.mode.ensures _ _ _ false c.setting_after.result
    (rw (← c.pieces.ensures) (Writes-fails c.pieces.result.1.now c.in_err-write_piece.ensures)) c.setting_after.ensures refl refl)

pub returns : goal.returns
returns g c = takes_event g.W.uWrite.seen g.M.ParseMode.mode c.mode.result c.mode.ensures _ _ _ _ c.setting_after.result
    (rw (← c.pieces.ensures) (Writes-then c.in_ok-write_piece.ensures c.write_piece-2.ensures)) c.setting_after.ensures refl refl
