-- What contracts see of the group of lines that is being read.
use Rattle.std.specs.Prelude.{◌≡◌, ◌≤◌, ℕ, nat_lt, Bool, List, ◌∷◌, ◌++◌, [], drop, length, take, Option, MatchOption}
use Rattle.ufmt.specs.Bytes.{line_feed}
use Rattle.ufmt_core.specs.declared.layout.Mode.{Mode}
use Rattle.ufmt_lines.specs.Groups.{AreFirstGroups, IsInLine, grouped, groups_of, if_any, pieces_of}
use Rattle.ufmt_lines.specs.Output.{outputs_for}
use Rattle.ufmt_lines.specs.Private.GroupOutput.{output_bytes}
use Rattle.ufmt_lines.specs.declared.run.conversion.Conversion.{Conversion}
use Rattle.ufmt_lines.specs.declared.run.groups.Group.{Group}

-- a line and its line feed
abbrev pub IsEndedLine : List ℕ → Type 0
IsEndedLine line = (text : List ℕ) × IsInLine text × (line ≡ text ++ line_feed ∷ [])

-- no group has ended in these lines: what follows is in a group that begins with them
abbrev pub IsOpen : Mode → List ℕ → Type 0
IsOpen mode lines = (more : List ℕ) → groups_of mode (lines ++ more) ≡ grouped mode lines (pieces_of mode more)

-- the bytes so far
abbrev pub group_bytes : Group → List ℕ
group_bytes group = group.bytes.items

-- they are lines after which the group continues, and a line that hasn't ended
pub record IsReading (mode : Mode) (group : Group) : Type 0 where
  pub lines : List ℕ
  pub line : List ℕ
  pub bytes : group_bytes group ≡ lines ++ line
  pub begins : group.line ≡ length lines
  pub is_open : IsOpen mode lines
  pub in_line : IsInLine line

-- so many bytes of a line are the last of the group, and the next group has begun with what is left of it
pub record EndsGroup (mode : Mode) (lines line : List ℕ) (size : ℕ) : Type 0 where
  pub within : size ≤ length line
  pub ended : AreFirstGroups mode (if_any (lines ++ take size line)) (lines ++ line) (drop size line)
  pub left : IsOpen mode (drop size line)

-- the group ends in the line, or continues after it, if it is inside of a group that has lines
abbrev pub IsEndOf : Mode → Bool → List ℕ → Option ℕ → Type 0
IsEndOf mode inside line outcome =
    (lines : List ℕ) → inside ≡ nat_lt 0 (length lines) → IsOpen mode lines → MatchOption outcome (IsOpen mode (lines ++ line)) (EndsGroup mode lines line)

-- what is made of its values
abbrev pub conversion_of : Group → Conversion
conversion_of group = group.converter.conversion

-- the mode of their texts then
abbrev pub mode_of : Group → Mode
mode_of group = (conversion_of group).to

-- the outputs that aren't written yet
abbrev pub gathered : Group → List ℕ
gathered group = output_bytes group.converter.output

-- the outputs for the first groups of a text are appended, and nothing for the rest
pub record Gathers (conversion : Conversion) (text rest old new : List ℕ) : Type 0 where
  pub groups : List (List ℕ)
  pub are_first : AreFirstGroups conversion.to groups text rest
  pub appended : new ≡ old ++ outputs_for conversion groups
