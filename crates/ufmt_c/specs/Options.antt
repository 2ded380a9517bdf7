-- What the options that C passes mean, and which of them mean nothing.
use Rattle.std.specs.Prelude.{◌≡◌, ℕ, ◌≤◌, ◌<◌, ◌==◌, if◌then◌else◌, Some, None}
use Rattle.std.specs.Char.{IsScalar}
use Rattle.ufmt.specs.declared.column.Align.{Align}
use Rattle.ufmt.specs.declared.column.Align.TheVariants.{Left, Center, Right}
use Rattle.ufmt.specs.declared.column.Column.{Column}
use Rattle.ufmt.specs.declared.dump.HexDump.{HexDump}
use Rattle.ufmt.specs.declared.hex.HexOptions.{HexOptions}
use Rattle.ufmt_core.specs.Bytes.{space}
use Rattle.ufmt_core.specs.declared.layout.Mode.{Mode}
use Rattle.ufmt_core.specs.declared.layout.Mode.TheVariants.{Plain, Pretty}
use Rattle.ufmt_grammar.specs.declared.class.Class.{Class}
use Rattle.ufmt_grammar.specs.declared.class.Class.TheVariants.{Debug, Token}
use Rattle.ufmt_c.specs.declared.options.ColumnStyle.{ColumnStyle}
use Rattle.ufmt_c.specs.declared.options.DumpStyle.{DumpStyle}
use Rattle.ufmt_c.specs.declared.options.HexStyle.{HexStyle}

-- there is such a class, and such a mode
abbrev pub AreChoices : ℕ → ℕ → Type 0
AreChoices class mode = (class ≤ 1) × (mode ≤ 1)

-- 0 is `Token`, and 1 `Debug`
abbrev pub class_of : ℕ → Class
class_of code = if code == 0 then Token else Debug

-- 0 is `Plain`, and 1 `Pretty`
abbrev pub mode_of : ℕ → Mode
mode_of code = if code == 0 then Plain else Pretty

-- what fills a text up to a width: 0 stands for a space
abbrev pub fill_of : ℕ → ℕ
fill_of code = if code == 0 then space else code

-- the size is that of the struct, and the byte to pad with is ASCII
abbrev pub IsHexStyle : HexStyle → Type 0
IsHexStyle s = (s.struct_size ≡ 24) × (s.pad < 128)

abbrev pub hex_of : HexStyle → HexOptions
hex_of s = record { upper_case = s.upper_case; pad_char = fill_of s.pad; pad_length = s.width; ox_prefix = s.prefix }

-- the size is that of the struct
abbrev pub IsDumpStyle : DumpStyle → Type 0
IsDumpStyle s = s.struct_size ≡ 32

abbrev pub dump_of : DumpStyle → HexDump
dump_of s = record { per_row = s.per_row; group = s.group; offset = if s.has_offsets then Some s.first else None; ascii = s.has_text }

-- the size is that of the struct, the fill is the code of a character, and there is such an alignment
abbrev pub IsColumnStyle : ColumnStyle → Type 0
IsColumnStyle s = (s.struct_size ≡ 24) × IsScalar s.fill × (s.align ≤ 2)

-- 0 is `Left`, 1 `Center`, and any other `Right`
abbrev pub align_of : ℕ → Align
align_of code = if code == 0 then Left else if code == 1 then Center else Right

abbrev pub column_of : ColumnStyle → Column
column_of s = record { width = s.width; align = align_of s.align; fill = fill_of s.fill }
