-- The classes of bytes in the grammar.
use Rattle.std.specs.Prelude.{ℕ, ◌&&◌, ◌||◌, ◌==◌, is_none, nat_le, nat_lt, not, Bool}
use Rattle.ufmt_core.specs.Bytes.{backslash, colon, opening_parenthesis, quotation_mark, space}
use Rattle.ufmt_core.specs.Quoted.{escape}
use Rattle.ufmt_grammar.specs.Leaves.{is_continuation, is_control, is_debug_byte, is_ender, is_escape_byte, is_name_byte, is_opening, is_plain_byte, is_quote, is_word_byte}
use Rattle.ufmt_grammar.specs.declared.bytes.ByteClass.{ByteClass}
use Rattle.ufmt_grammar.specs.declared.bytes.ByteClass.TheVariants as classes

-- a byte of a word in ASCII that is in it whatever follows
abbrev pub is_plain_ascii : ℕ → Bool
is_plain_ascii c = is_plain_byte c && nat_lt c 128

-- a byte of a word that is in it whatever follows, or a colon
abbrev pub is_run_byte : ℕ → Bool
is_run_byte c = is_plain_byte c || c == colon

-- no leaf of a debug document has this byte outside of quotes
abbrev pub is_ending : ℕ → Bool
is_ending c = nat_le c 255 && not (is_debug_byte c || is_quote c || c == colon || c == opening_parenthesis)

-- a byte that stays between quotes, whichever they are, and takes none with it
abbrev pub is_quoted_byte : ℕ → Bool
is_quoted_byte c = nat_le c 255 && not (is_control c || is_quote c || c == backslash)

-- a byte in ASCII that has no escape between quotation marks
abbrev pub is_unescaped : ℕ → Bool
is_unescaped c = is_none (escape quotation_mark c) && nat_lt c 128

-- a byte that comes after a name: a space, a comma or a bracket
abbrev pub ends_name : ℕ → Bool
ends_name c = c == space || is_opening c || is_ender c

-- whether a byte is of a class
abbrev pub is_in : ByteClass → ℕ → Bool
is_in classes.TokenWord = is_word_byte
is_in classes.Word = is_debug_byte
is_in classes.Plain = is_plain_byte
is_in classes.PlainAscii = is_plain_ascii
is_in classes.Run = is_run_byte
is_in classes.Name = is_name_byte
is_in classes.Ending = is_ending
is_in classes.Quoted = is_quoted_byte
is_in classes.Unescaped = is_unescaped
is_in classes.Continuation = is_continuation
is_in classes.Escape = is_escape_byte
is_in classes.AfterName = ends_name

-- the bit of a class in the table
abbrev pub bit_of : ByteClass → ℕ
bit_of classes.TokenWord = 1
bit_of classes.Word = 2
bit_of classes.Plain = 4
bit_of classes.PlainAscii = 8
bit_of classes.Run = 16
bit_of classes.Name = 32
bit_of classes.Ending = 64
bit_of classes.Quoted = 128
bit_of classes.Unescaped = 256
bit_of classes.Continuation = 512
bit_of classes.Escape = 1024
bit_of classes.AfterName = 2048
