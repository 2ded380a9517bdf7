-- Lines that have ended, one after another.
use Rattle.std.specs.Prelude.{◌≡◌, ◌⊎◌, ℕ, List, [], ◌∷◌, ◌++◌}
use Rattle.ufmt.specs.Bytes.{line_feed}
use Rattle.ufmt_lines.specs.Groups.{ended_lines}
use Rattle.ufmt_lines.specs.Output.{outputs_for}
use Rattle.ufmt_lines.specs.declared.run.conversion.Conversion.{Conversion}

-- a text has no bytes, or its last one is a line feed
abbrev pub EndsLine : List ℕ → Type 0
EndsLine text = (text ≡ []) ⊎ ((line : List ℕ) × (text ≡ line ++ line_feed ∷ []))

-- the outputs for the first of these lines, each a group, are appended, and these lines are left
pub record PushesLines (conversion : Conversion) (lines left old new : List ℕ) : Type 0 where
  pub first : List ℕ
  pub is : lines ≡ first ++ left
  pub ended : EndsLine first
  pub appended : new ≡ old ++ outputs_for conversion (ended_lines first)
