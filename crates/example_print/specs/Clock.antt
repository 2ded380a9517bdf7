-- The texts of a time of day, and of a temperature and flags.
use Rattle.std.specs.Prelude.{ℕ, ℤ, pos, List, [], ◌∷◌, codes, true, false}
use Rattle.example_print.specs.declared.clock.Time.{Time}
use Rattle.ufmt.specs.declared.hex.HexOptions.{HexOptions}
use Rattle.ufmt.specs.declared.radix.Radix.TheVariants.{Binary}
use Rattle.ufmt.specs.Bytes.{zero_digit}
use Rattle.ufmt.specs.FixedPoint.{fixed}
use Rattle.ufmt.specs.Document.{leaf}
use Rattle.ufmt.specs.Pieces.{line_text, shown, text}
use Rattle.ufmt.specs.Radix.{padded_in}
use Rattle.ufmt.specs.Zeros.{zero_padded}

-- hours, minutes and seconds have two digits, milliseconds have three
abbrev pub time_text : Time → List ℕ
time_text t = line_text
    (text (zero_padded 2 (pos t.hours)) ∷ text (codes ":") ∷ text (zero_padded 2 (pos t.minutes)) ∷ text (codes ":") ∷ text (zero_padded 2 (pos t.seconds)) ∷ text (codes ".")
    ∷ text (zero_padded 3 (pos t.milliseconds)) ∷ [])

-- eight binary digits after their prefix
abbrev pub flag_digits : HexOptions
flag_digits = record { upper_case = false; pad_char = zero_digit; pad_length = 10; ox_prefix = true }

-- a temperature with one place, and the flags
abbrev pub status_text : ℤ → ℕ → List ℕ
status_text tenths flags = line_text
    (shown (leaf (fixed 1 tenths)) ∷ text (codes " ") ∷ text (padded_in Binary flag_digits flags) ∷ [])
