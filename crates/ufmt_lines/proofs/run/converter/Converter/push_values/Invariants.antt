-- What is before the place was converted, no more brackets follow than the number, and no value begins at the end or after it, nor at the places that are kept.
use Rattle.std.proofs.Common.{◌≡◌, ◌++◌, ◌-◌, ◌≤◌, ℕ, length}
use Rattle.ufmt_lines.specs.Private.GroupOutput.{output_bytes}
use Rattle.ufmt_lines.specs.Private.OpenBlocks.{IsKnown}
use Rattle.ufmt_lines.specs.Values.{convert_from, output_of}
use Rattle.ufmt_values.specs.Unclosed.{HasNoMore}
use Rattle.ufmt_lines.proofs.run.converter.Converter.push_values.Given as goal

abbrev pub invariant-loop-bracket : goal.invariant-loop-bracket
invariant-loop-bracket l = record {
  within : l.at ≤ length l.text;
  conversion : l.self.conversion ≡ l.initial.self.conversion;
  known : IsKnown l.text l.self.tries;
  ends : (place : ℕ) → l.end ≤ place → HasNoMore l.text place;
  so_far : (n : ℕ) × (length l.text - l.at ≤ n)
      × (output_bytes l.initial.self.output ++ output_of l.initial.self.conversion l.text
      ≡ output_bytes l.self.output ++ convert_from l.initial.self.conversion n l.text l.at);
}

abbrev pub decreases-loop-bracket : goal.decreases-loop-bracket
decreases-loop-bracket l = length l.text - l.at
