-- The texts that the calls of logger.rt write: a log line, a list of measurements, and the bytes of a packet.
use Rattle.std.specs.Prelude.{ℕ, List, [], ◌∷◌, codes, true, false, map, length}
use Rattle.example_print.specs.declared.logger.Measurement.{Measurement}
use Rattle.ufmt.specs.declared.hex.HexOptions.{HexOptions}
use Rattle.ufmt.specs.Bytes.{zero_digit}
use Rattle.ufmt.specs.Document.{Document}
use Rattle.ufmt.specs.Hex.{padded_hexadecimal}
use Rattle.ufmt.specs.ValueDocuments.{integer, named_struct, number}
use Rattle.ufmt.specs.Pieces.{Piece, each, line_text, shown, text, hex}

abbrev pub measurement_document : Measurement → Document
measurement_document r = named_struct "Measurement" (("channel", number r.channel) ∷ ("celsius", integer r.celsius) ∷ [])

-- the options for a register: `0x`, and then zeros up to ten bytes in all
abbrev pub register : HexOptions
register = record { upper_case = false; pad_char = zero_digit; pad_length = 10; ox_prefix = true }

-- a log line: the measurement, ` control `, the register and a line feed
abbrev pub line : Measurement → ℕ → List ℕ
line measurement control = line_text
    (shown (measurement_document measurement) ∷ text (codes " control ") ∷ hex (padded_hexadecimal register control) ∷ text (codes "\n") ∷ [])

abbrev pub measurement_pieces : Measurement → List Piece
measurement_pieces r = shown (number r.channel) ∷ text (codes "=") ∷ shown (integer r.celsius) ∷ []

-- `measured: `, and the measurements with a comma and a space between them
abbrev pub measurements_text : List Measurement → List ℕ
measurements_text rs = line_text (text (codes "measured: ") ∷ each (codes ", ") (map measurement_pieces rs) ∷ [])

-- the options for a byte: two digits
abbrev pub byte : HexOptions
byte = record { upper_case = false; pad_char = zero_digit; pad_length = 2; ox_prefix = false }

-- `len=`, how many bytes there are, and the bytes in hexadecimal with spaces between them
abbrev pub dump_text : List ℕ → List ℕ
dump_text packet = line_text
    (text (codes "len=") ∷ shown (number (length packet)) ∷ text (codes " ") ∷ each (codes " ") (map (λ b. hex (padded_hexadecimal byte b) ∷ []) packet) ∷ [])
