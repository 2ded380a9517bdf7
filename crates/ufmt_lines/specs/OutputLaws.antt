-- What the groups of a text are, and which texts come back.
use Rattle.std.specs.Prelude.{◌≡◌, ℕ, List}
use Rattle.std.specs.List.{concat}
use Rattle.ufmt_core.specs.declared.layout.Mode.{Mode}
use Rattle.ufmt_core.specs.declared.layout.Mode.TheVariants.{Plain, Pretty}
use Rattle.ufmt_lines.specs.Groups.{IsInGroup, IsInLine, ended_lines, groups_of}
use Rattle.ufmt_lines.specs.Output.{outputs_of}
use Rattle.ufmt_lines.specs.Values.{output_of}
use Rattle.ufmt_lines.specs.declared.run.conversion.Conversion.{Conversion}

-- put together, they are the text
abbrev pub GroupsAreTheText : Type 0
GroupsAreTheText = (mode : Mode) (text : List ℕ) → concat (groups_of mode text) ≡ text

-- what is made pretty is each line by itself
abbrev pub LinesAreMadePretty : Type 0
LinesAreMadePretty = (text : List ℕ) → groups_of Pretty text ≡ ended_lines text

-- and a rest in which none ends has no line feed
abbrev pub PrettyRestIsInLine : Type 0
PrettyRestIsInLine = (text : List ℕ) → IsInGroup Pretty text → IsInLine text

-- the outputs for the groups of a text, put together, are the output for the text
abbrev pub OutputsAreTheOutput : Type 0
OutputsAreTheOutput = (conversion : Conversion) (text : List ℕ) → outputs_of conversion text ≡ output_of conversion text

-- a conversion to plain, and one to pretty, with this limit
abbrev pub plain_with : ℕ → Conversion
plain_with n = record { to = Plain; longer_than = n }

abbrev pub pretty_with : ℕ → Conversion
pretty_with n = record { to = Pretty; longer_than = n }

-- a text that stays as it is made plain comes back after it is made pretty and then plain, whatever the limit
abbrev pub PlainTextsComeBack : Type 0
PlainTextsComeBack = (n : ℕ) (text : List ℕ) → output_of (plain_with n) text ≡ text → output_of (plain_with n) (output_of (pretty_with n) text) ≡ text

-- so does a log whose groups stay so
abbrev pub PlainLogsComeBack : Type 0
PlainLogsComeBack = (n : ℕ) (log : List ℕ) → outputs_of (plain_with n) log ≡ log → outputs_of (plain_with n) (outputs_of (pretty_with n) log) ≡ log
