use Rattle.std.proofs.Common.{◌≡◌, ◌<◌, None, drop, eqb-true, length, rules, slice_index_or, subst}
use Rattle.ufmt_core.specs.declared.layout.Mode.TheVariants.{Pretty}
use Rattle.ufmt_lines.proofs.OpenBlocks.{first_kept}
use Rattle.ufmt_values.specs.Values.{value_from}
use Rattle.ufmt_lines.proofs.run.open_blocks.Barren.reach.Goals as goal

pub returns-then-place-kept-clause-none : goal.returns-then-place-kept-clause-none
returns-then-place-kept-clause-none c = λ same text kept.
    let barren = c.places.self in
    let within : barren.first < length barren.places = search rules in
    let place : slice_index_or barren.places barren.first 0 ≡ c.args.place = eqb-true _ _ same in
    subst (λ p. value_from Pretty (drop p text) ≡ None) place (first_kept text barren.places barren.first within (c.places.invariant text kept)).0

pub places-preserved : goal.places-preserved
places-preserved c = λ text kept.
    let barren = c.places.self in
    let within : barren.first < length barren.places = search rules in
    (first_kept text barren.places barren.first within (c.places.invariant text kept)).1
