-- The names of the commands, and the usage line.
use Rattle.std.specs.Prelude.{ℕ, List, codes}
use Rattle.ufmt_conv.specs.declared.run.command.Command.{Command}
use Rattle.ufmt_conv.specs.declared.run.command.Command.TheVariants.{Lengths, Pretty, Plain}

-- the name of a command
abbrev pub name_of : Command → List ℕ
name_of Lengths = codes "lengths"
name_of Pretty = codes "pretty"
name_of Plain = codes "plain"

-- the line for arguments that are no command
abbrev pub usage_line : List ℕ
usage_line = codes "usage: ufmt_conv lengths|pretty|plain"
