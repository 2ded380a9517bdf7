use Rattle.core.specs.Prelude.{◌≤◌, ◌*◌, ◌^◌, ◌-◌, ◌++◌, ℕ, List, replicate, pos, length, nat_lt}
use mathlib.Core.Path.{refl, sym, subst, ap, ◌∙◌}
use native.Mathlib.Omega.{arith}
use Rattle.core.specs.Str.{IsAscii}
use Rattle.ufmt_core.specs.Decimal.{decimal}
use Rattle.ufmt_float.proofs.Puts.{length-last_digits}
use Rattle.ufmt_float.proofs.Puts.{put_before}
use Rattle.ufmt_fixed.specs.Natural.{value_of}
use Rattle.ufmt_fixed.proofs.Puts.{put_last}
use Rattle.ufmt_fixed.proofs.Texts.{whole_bound, length-whole, length-if_point, finite_written, IsAscii-digits}
use Rattle.ufmt_fixed.proofs.Zeros.{below_half, zero_written}
use Rattle.ufmt_fixed.proofs.text.put_finite.Goals as goal

pub returns-then-is_below_half-clause-text : goal.returns-then-is_below_half-clause-text
returns-then-is_below_half-clause-text c =
    let a = c.args in
    ap (λ (text : List ℕ). text ++ replicate a.decimals 48) (put_last _ _ _ 1385 _ c.requires.room c.put_zero.ensures)
    ∙ zero_written a.decimals _ (below_half a.significand a.twos a.halves a.decimals c.requires.size.3 (c.if-is_below_half.ensures refl))

pub put_point-end-requires : goal.put_point-end-requires
put_point-end-requires c =
    let w = c.put_decimals-end.ensures.written in (
      omega (arith, w.place, length-last_digits c.min-places.result (value_of c.long_digits-digits.result.limbs), c.min-places.ensures, c.requires.size.2, length-if_point (nat_lt 0 c.args.decimals)),
      omega (arith, w.place, w.same, c.requires.room),
    )

pub put_natural-requires : goal.put_natural-requires
put_natural-requires c =
    let a = c.args in
    let w = c.put_decimals-end.ensures.written in
    let p = c.put_point-end.ensures in
    let whole = length-whole _ (whole_bound a.significand a.twos a.halves c.min-places.result c.requires.size.0 c.requires.size.1) in (
      rw (c.put_decimals-end.ensures.left, c.long_digits-digits.ensures)
          (omega (arith, whole, p.place, w.place, length-last_digits c.min-places.result (value_of c.long_digits-digits.result.limbs), c.min-places.ensures, c.requires.size.2, length-if_point (nat_lt 0 a.decimals))),
      omega (arith, p.place, p.same, w.place, w.same, c.requires.room),
    )

pub returns-clause-text : goal.returns-clause-text
returns-clause-text c =
    let a = c.args in
    let after = put_before _ _ _ _ _ _ _ _ c.put_decimals-end.ensures.written c.put_point-end.ensures in
    let whole = put_before _ _ _ _ _ _ _ _ after c.put_natural.ensures in
    ap (λ (text : List ℕ). text ++ replicate (a.decimals - c.min-places.result) 48) (put_last _ _ _ 1385 _ c.requires.room whole)
    ∙ finite_written (a.significand * 2 ^ a.twos) a.halves a.decimals c.min-places.result _ _ _ c.min-places.ensures refl c.long_digits-digits.ensures c.put_decimals-end.ensures.left

pub returns-clause-ascii : goal.returns-clause-ascii
returns-clause-ascii c =
    let after = put_before _ _ _ _ _ _ _ _ c.put_decimals-end.ensures.written c.put_point-end.ensures in
    let whole = put_before _ _ _ _ _ _ _ _ after c.put_natural.ensures in
    subst IsAscii (sym (put_last _ _ _ 1385 _ c.requires.room whole)) (IsAscii-digits _ c.min-places.result _ (nat_lt 0 c.args.decimals))

pub returns-clause-within : goal.returns-clause-within
returns-clause-within c =
    let a = c.args in
    let w = c.put_decimals-end.ensures.written in
    let p = c.put_point-end.ensures in
    let n = c.put_natural.ensures in
    let whole = length-whole _ (whole_bound a.significand a.twos a.halves c.min-places.result c.requires.size.0 c.requires.size.1) in
    let short : length (decimal (pos (value_of c.put_decimals-end.new.digits.limbs))) ≤ 309 = rw (c.put_decimals-end.ensures.left, c.long_digits-digits.ensures) whole in (
      omega (arith, short, n.place, p.place, w.place, length-last_digits c.min-places.result (value_of c.long_digits-digits.result.limbs), c.min-places.ensures, c.requires.size.2, length-if_point (nat_lt 0 a.decimals)),
      omega (arith, n.place, p.place, w.place),
    )
