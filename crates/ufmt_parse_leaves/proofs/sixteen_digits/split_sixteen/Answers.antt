use Rattle.std.proofs.Common.{◌≡◌, ◌∙◌, sym, ap, ◌-◌, ◌++◌, length, drop, take-append-drop, length-drop, length-take-le, take_all, arith}
use Rattle.std.proofs.lemmas.List.{length-map}
use Rattle.ufmt_core.specs.Decimal.{decimal_byte}
use Rattle.ufmt_parse_leaves.proofs.DecimalFronts.{begins_with_digits}
use Rattle.ufmt_parse_leaves.proofs.sixteen_digits.split_sixteen.Goals as goal

pub returns-then-are_digits-clause-denotes : goal.returns-then-are_digits-clause-denotes
returns-then-are_digits-clause-denotes c =
    let input = c.args.input.now in
    let digits = c.less_zero-digits.result in
    let below = c.are_digits.ensures c.if-are_digits.true in
    let bytes = c.less_zero-digits.ensures below in
    let long : length digits ≡ 16 = omega (arith, ap length bytes, length-take-le 16 input (omega arith), length-map digits decimal_byte) in
    rw (c.number.ensures, take_all (length input - 16) (drop 16 input) (omega (arith, length-drop 16 input)))
    (begins_with_digits 16 digits input (drop 16 input) long below (sym (take-append-drop 16 input) ∙ ap (λ front. front ++ drop 16 input) bytes))
