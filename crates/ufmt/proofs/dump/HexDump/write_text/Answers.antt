use Rattle.std.proofs.Common.{◌≡◌, true, arith}
use Rattle.std.proofs.lemmas.Grind.{common_steps}
use Rattle.ufmt_core.proofs.Writing.{Writes-fails, Writes-then}
use Rattle.ufmt.proofs.LeftToWrite.{Writes-err}
use Rattle.ufmt.proofs.dump.HexDump.write_text.Goals as goal

pub returns-in_err-write_str : goal.returns-in_err-write_str
returns-in_err-write_str g c =
    let has_texts : c.args.self.now.ascii ≡ true = grind (arith, common_steps, c.if-not-self.false) in
    rw has_texts (Writes-err _ c.from_residual-in_err-write_str.ensures.0 (Writes-then c.in_ok-write_missing.ensures (Writes-fails _ c.in_err-write_str.ensures)))

pub returns : goal.returns
returns g c =
    let has_texts : c.args.self.now.ascii ≡ true = grind (arith, common_steps, c.if-not-self.false) in
    rw has_texts (Writes-then c.in_ok-write_missing.ensures (Writes-then c.in_ok-write_str.ensures c.write_shown.ensures))
