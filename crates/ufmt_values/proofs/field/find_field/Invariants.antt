-- The field is from the place on, with no more brackets than the number, and no value begins at the end or after it.
use Rattle.std.proofs.Common.{◌≡◌, ◌-◌, ◌≤◌, ℕ, length}
use Rattle.ufmt_values.specs.Fields.{field_from, placed_field}
use Rattle.ufmt_values.specs.Unclosed.{HasNoMore}
use Rattle.ufmt_values.proofs.field.find_field.Given as goal

abbrev pub invariant-loop-bracket : goal.invariant-loop-bracket
invariant-loop-bracket l = record {
  within : l.at ≤ length l.line;
  ends : (place : ℕ) → l.end ≤ place → HasNoMore l.line place;
  so_far : (n : ℕ) × (length l.line - l.at ≤ n) × (placed_field l.class l.line l.name ≡ field_from l.class l.name n l.line l.at);
}

abbrev pub decreases-loop-bracket : goal.decreases-loop-bracket
decreases-loop-bracket l = length l.line - l.at
