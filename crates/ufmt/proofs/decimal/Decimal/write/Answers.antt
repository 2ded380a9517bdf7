use Rattle.std.proofs.Common.{ap, ◌∙◌, arith}
use Rattle.ufmt_core.proofs.Writing.{Prints-err, Prints-fails, Prints-same, Prints-then}
use Rattle.ufmt.proofs.FixedPoint.{fixed-parts}
use Rattle.ufmt.proofs.ZeroPadding.{sign_tested}
use Rattle.ufmt.specs.Zeros.{minus_if}
use Rattle.ufmt.proofs.decimal.Decimal.write.Goals as goal

pub returns-in_err-write_u64 : goal.returns-in_err-write_u64
returns-in_err-write_u64 g c =
    let d = c.args.self.now in
    Prints-same (fixed-parts c.args.width d.places d.value {part = c.split-whole.result.1} (omega arith) c.from-places.ensures c.split-whole.ensures.whole
    c.split-whole.ensures.part c.saturating_sub-whole_width.ensures (ap minus_if c.is_negative-is_negative.ensures ∙ sign_tested d.value))
    (Prints-err _ c.from_residual.ensures.0 (Prints-fails _ c.in_err-write_u64.ensures))

pub returns-in_err-write_str : goal.returns-in_err-write_str
returns-in_err-write_str g c =
    let d = c.args.self.now in
    Prints-same (fixed-parts c.args.width d.places d.value {part = c.split-whole.result.1} (omega arith) c.from-places.ensures c.split-whole.ensures.whole
    c.split-whole.ensures.part c.saturating_sub-whole_width.ensures (ap minus_if c.is_negative-is_negative.ensures ∙ sign_tested d.value))
    (Prints-err _ c.from_residual-in_err-write_str.ensures.0 (Prints-then c.in_ok-write_u64.ensures (Prints-fails _ c.in_err-write_str.ensures.prints)))

pub returns : goal.returns
returns g c =
    let d = c.args.self.now in
    Prints-same (fixed-parts c.args.width d.places d.value (omega arith) c.from-places.ensures c.split-whole.ensures.whole
    c.split-whole.ensures.part c.saturating_sub-whole_width.ensures (ap minus_if c.is_negative-is_negative.ensures ∙ sign_tested d.value))
    (Prints-then c.in_ok-write_u64.ensures (Prints-then c.in_ok-write_str.ensures.prints c.write_u64-3.ensures))
