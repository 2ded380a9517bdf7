use Rattle.std.proofs.Common.{◌∙◌, ap, ◌^◌, ◌<◌, arith}
use Rattle.std.proofs.lemmas.Int.Digits.{number_lt}
use Rattle.std.specs.Int.Digits.{number_from_digits, number_from_digits_after}
use Rattle.ufmt_parse_leaves.proofs.PackedDigits.{joined_below, joined_sixteen}
use Rattle.ufmt_parse_leaves.specs.Private.Digits.{joined}
use Rattle.ufmt_parse_leaves.proofs.sixteen_digits.number.Goals as goal

pub fours-requires : goal.fours-requires
fours-requires c = rw c.pairs.ensures (joined_below 10 100 (λ a b x y. omega arith) c.args.digits c.requires)

pub eights-high-requires : goal.eights-high-requires
eights-high-requires c =
    rw (c.fours.ensures, c.pairs.ensures) (joined_below 100 10000 (λ a b x y. omega arith) (joined 10 c.args.digits)
    (joined_below 10 100 (λ a b x y. omega arith) c.args.digits c.requires))

pub returns : goal.returns
returns c =
    let lanes = c.eights-high.ensures ∙ ap (joined 10000) (c.fours.ensures ∙ ap (joined 100) c.pairs.ensures) in
    omega (arith, ap (number_from_digits_after 100000000 0) lanes ∙ joined_sixteen c.args.digits c.fits-digits.0)

pub overflow_add-result : goal.overflow_add-result
overflow_add-result c =
    let low : number_from_digits 10 c.args.digits < 10 ^ 16 = rw c.fits-digits.0 at (number_lt 10 c.args.digits c.requires) in
    record { fits = omega (arith, returns c, low) }
