-- What is written for the groups of lines of an input.
use Rattle.std.specs.Prelude.{ℕ, List, map, Option, IfSome}
use Rattle.std.specs.Io.KnownBytes.{Appends, Consumes}
use Rattle.std.specs.List.{concat}
use Rattle.ufmt_io.specs.Whole.{AppendsPrefix}
use Rattle.ufmt_lines.specs.Groups.{AreFirstGroups, groups_of}
use Rattle.ufmt_lines.specs.Values.{output_of}
use Rattle.ufmt_lines.specs.declared.run.conversion.Conversion.{Conversion}

-- the outputs for groups, put together
abbrev pub outputs_for : Conversion → List (List ℕ) → List ℕ
outputs_for conversion groups = concat (map (output_of conversion) groups)

-- the outputs for the groups of a text
unfoldable pub outputs_of : Conversion → List ℕ → List ℕ
outputs_of conversion text = outputs_for conversion (groups_of conversion.to text)

-- if the bytes of input and output are known: the outputs for all groups were written
abbrev pub WritesOutput : Conversion → Option (List ℕ) → Option (List ℕ) → Option (List ℕ) → Type 0
WritesOutput conversion input old new = IfSome input (λ bytes. Appends old new (outputs_of conversion bytes))

-- if the bytes of input and output are known: a prefix of the outputs was written
abbrev pub WritesOutputPrefix : Conversion → Option (List ℕ) → Option (List ℕ) → Option (List ℕ) → Type 0
WritesOutputPrefix conversion input old new = IfSome input (λ bytes. AppendsPrefix old new (outputs_of conversion bytes))

-- the outputs for the first groups of a text were written, and nothing for the rest
pub record WritesFront (conversion : Conversion) (text rest : List ℕ) (old new : Option (List ℕ)) : Type 0 where
  pub groups : List (List ℕ)
  pub are_first : AreFirstGroups conversion.to groups text rest
  pub written : Appends old new (outputs_for conversion groups)

-- what was read is whole groups, whose outputs were written, and a rest
pub record ReadsAndWrites (conversion : Conversion) (IsRest : List ℕ → Type 0) (input input' old new : Option (List ℕ)) : Type 0 where
  pub text : List ℕ
  pub read : Consumes input input' text
  pub rest : List ℕ
  pub is_rest : IsRest rest
  pub written : WritesFront conversion text rest old new
