-- No value begins at the places so far, nor at the last of them.
use Rattle.std.proofs.Common.{◌≡◌, None, drop}
use Rattle.ufmt_core.specs.declared.layout.Mode.TheVariants.{Pretty}
use Rattle.ufmt_lines.specs.Private.OpenBlocks.{IsBarren}
use Rattle.ufmt_values.specs.Values.{value_from}
use Rattle.ufmt_lines.proofs.run.open_blocks.Barren.fill.Given as goal

abbrev pub invariant-around : goal.invariant-around
invariant-around l = record {
  kept : IsBarren l.text l.self;
  none : value_from Pretty (drop l.inner l.text) ≡ None;
}

abbrev pub decreases-around : goal.decreases-around
decreases-around l = l.open.count
