use mathlib.Core.Path.{refl}
use native.Mathlib.Omega.{arith}
use Rattle.std.proofs.lemmas.Grind.{common_steps}
use Rattle.core.specs.Prelude.{◌+◌, ◌*◌, ◌<◌, ◌≤◌}
use Rattle.ufmt_float.proofs.Choices.{chosen_tens, chosen_next_tens, chosen_whole, chosen_past, chosen_next, chosen_before}
use Rattle.ufmt_float.proofs.choice.choose.Goals as goal

pub returns-then-is_above_start : goal.returns-then-is_above_start
returns-then-is_above_start g c = let f = c.floor-whole.ensures in chosen_tens _ _ _ _ _ c.requires.scaled f.from f.below (c.if-is_above_start.ensures.yes refl)

pub returns-then-is_below_end : goal.returns-then-is_below_end
returns-then-is_below_end g c = let f = c.floor-whole.ensures in chosen_next_tens _ _ _ _ _ c.requires.scaled f.from f.below (c.if-is_below_end.ensures.yes refl)

pub returns-then-is_above_start-2 : goal.returns-then-is_above_start-2
returns-then-is_above_start-2 g c =
    let f = c.floor-whole.ensures in
    let near : 2 * (c.args.m * g.R.Ratio.top c.args.ratio.now) < (2 * c.floor-whole.result + 1) * g.R.Ratio.bottom c.args.ratio.now = grind (arith, common_steps) in
    chosen_whole _ _ _ _ _ c.requires.scaled f.from f.below (c.if-is_above_start.ensures.no refl) (c.if-is_below_end.ensures.no refl)
    (c.if-is_above_start-2.ensures.yes refl) near

pub returns-else-is_above_start-2 : goal.returns-else-is_above_start-2
returns-else-is_above_start-2 g c =
    let f = c.floor-whole.ensures in
    chosen_past _ _ _ _ _ c.requires.scaled f.from f.below (c.if-is_above_start.ensures.no refl) (c.if-is_below_end.ensures.no refl)
    (c.if-is_above_start-2.ensures.no refl)

pub returns-then-is_below_end-2 : goal.returns-then-is_below_end-2
returns-then-is_below_end-2 g c =
    let f = c.floor-whole.ensures in
    let near : (2 * c.floor-whole.result + 1) * g.R.Ratio.bottom c.args.ratio.now ≤ 2 * (c.args.m * g.R.Ratio.top c.args.ratio.now) = grind (arith, common_steps) in
    chosen_next _ _ _ _ _ c.requires.scaled f.from f.below (c.if-is_above_start.ensures.no refl) (c.if-is_below_end.ensures.no refl)
    (c.if-is_below_end-2.ensures.yes refl) near

pub returns-else-is_below_end-2 : goal.returns-else-is_below_end-2
returns-else-is_below_end-2 g c =
    let f = c.floor-whole.ensures in
    chosen_before _ _ _ _ _ c.requires.scaled f.from f.below (c.if-is_above_start.ensures.no refl) (c.if-is_below_end.ensures.no refl)
    (c.if-is_below_end-2.ensures.no refl)
