-- Bytes as they are written between quotation marks.
use Rattle.std.specs.Prelude.{◌≢◌, ◌==◌, ◌&&◌, Bool, true, not, nat_le, nat_lt, List, ℕ, [], ◌∷◌, ◌++◌}
use Rattle.ufmt_core.specs.Bytes.{backslash, delete, quotation_mark, space}
use Rattle.ufmt_core.specs.Quoted.{escaped_bytes}

-- no closing quotation mark follows bytes that are written so
abbrev pub NeverCloses : List ℕ → Type 0
NeverCloses t = (bytes rest : List ℕ) → t ≢ escaped_bytes quotation_mark bytes ++ (quotation_mark ∷ rest)

-- the byte is ASCII, and written as itself
abbrev pub is_plain : ℕ → Bool
is_plain b = ((nat_le space b && nat_lt b delete) && not (b == quotation_mark)) && not (b == backslash)

-- any other byte
abbrev pub is_marked : ℕ → Bool
is_marked b = not (is_plain b)

abbrev pub all_plain : List ℕ → Bool
all_plain [] = true
all_plain (b ∷ bs) = is_plain b && all_plain bs
