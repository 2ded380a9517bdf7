-- Examples of texts in columns, computed.
use Rattle.std.proofs.Common.{◌≡◌, ℕ, [], ◌∷◌, codes, refl}
use Rattle.std.specs.Fmt.{char_count}
use Rattle.ufmt_core.specs.Bytes.{space}
use Rattle.ufmt.specs.Column.{in_column}
use Rattle.ufmt.specs.declared.column.Align.{Align}
use Rattle.ufmt.specs.declared.column.Align.TheVariants.{Left, Center, Right}
use Rattle.ufmt.specs.declared.column.Column.{Column}

abbrev spaces : Align → ℕ → Column
spaces align width = record { width = width; align = align; fill = space }

column-left : in_column (spaces Left 5) (codes "abc") ≡ codes "abc  "
unfolding char_count lib.Utf8.encode
column-left = refl

column-right : in_column (spaces Right 5) (codes "abc") ≡ codes "  abc"
unfolding char_count lib.Utf8.encode
column-right = refl

-- of three spaces, two come after the text
column-center : in_column (spaces Center 6) (codes "abc") ≡ codes " abc  "
unfolding char_count lib.Utf8.encode
column-center = refl

-- texts of the width or more
column-full : in_column (spaces Center 3) (codes "abc") ≡ codes "abc"
unfolding char_count lib.Utf8.encode
column-full = refl

column-longer : in_column (spaces Right 2) (codes "abc") ≡ codes "abc"
unfolding char_count lib.Utf8.encode
column-longer = refl

-- é has two bytes, and is one character; so is the fill €, of three
column-past_ascii : in_column (record { width = 2; align = Left; fill = 8364 }) (195 ∷ 169 ∷ []) ≡ 195 ∷ 169 ∷ 226 ∷ 130 ∷ 172 ∷ []
unfolding char_count lib.Utf8.encode
column-past_ascii = refl
