use Rattle.std.proofs.Common.{rules, refl, ap, arith, length}
use Rattle.std.specs.Prelude.{◌-◌}
use Rattle.ufmt_c.specs.Numbers.{ReadsNumber}
use Rattle.ufmt_c.proofs.ReadNumbers.{more_than_number, no_number, stops_after, stops_anywhere}
use Rattle.ufmt_c.proofs.read_numbers.read.Goals as goal

pub returns-else-len-eq0 : goal.returns-else-len-eq0
returns-else-len-eq0 g c =
    let is_number = g.T.Number.is_number in
    let text_of = g.T.Number.text_of in
    let whole = c.new-parser.ensures.rest in
    let outermost = c.new-parser.ensures.outermost in
    let leaves = c.take.ensures.leaves in
    let only = c.in-Ok.ensures.only in
    ReadsNumber.none (more_than_number is_number text_of leaves _ _ whole outermost _ only (search rules)) refl refl
    (stops_after is_number text_of leaves _ _ whole outermost _ only _ (ap (λ n. length c.args.input.now - n) c.len-in-Ok.ensures))

pub returns-in-Err : goal.returns-in-Err
returns-in-Err g c =
    let is_number = g.T.Number.is_number in
    let text_of = g.T.Number.text_of in
    let whole = c.new-parser.ensures.rest in
    let outermost = c.new-parser.ensures.outermost in
    let leaves = c.take.ensures.leaves in
    let none = c.in-Err.ensures.none in
    ReadsNumber.none (no_number is_number text_of leaves _ _ whole outermost none) refl refl
    (stops_anywhere is_number text_of leaves _ _ whole outermost none _ (omega arith))
