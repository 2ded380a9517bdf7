-- What the program says of itself.
use Rattle.std.specs.Prelude.{ℕ, List, codes}

-- the line that follows the line of a wrong argument
abbrev pub usage_line : List ℕ
usage_line = codes "usage: ufmt_lines [--longer-than N | --plain | --help | --version] [--] [FILE..]"

-- the usage, and what each argument does
abbrev pub help_text : List ℕ
help_text = codes "usage: ufmt_lines [--longer-than N | --plain | --help | --version] [--] [FILE..]\n\nWrites each line of the files, with its long debug texts made pretty. The files are\nread as one, in their order. Without a file, standard input is read.\n\n  --longer-than N  makes texts of more than N bytes pretty, not of more than 40\n  --plain          writes pretty texts of several lines as plain ones\n  -h, --help       prints this text\n  -V, --version    prints the version\n  --               ends the options: what follows are files\n  -                is standard input\n"

-- the name and the version of the program, a line
abbrev pub version_text : List ℕ
version_text = codes "ufmt_lines 0.4.0\n"
