-- The texts of floats are ASCII.
use Rattle.core.specs.Prelude.{ℕ, zero, suc, ◌^◌, ◌<◌, List, [], ◌∷◌, ◌++◌, Bool}
use mathlib.Core.Logic.{inl, inr}
use native.Mathlib.Omega.{arith}
use Rattle.core.specs.Fmt.{sign_text}
use Rattle.core.specs.Str.{IsAscii}
use Rattle.ufmt_float.specs.Text.{decimal_text}
use Rattle.ufmt_float.proofs.NumberBytes.{IsNumberByte, AreNumberBytes, decimal_bytes}

below : (c : ℕ) → IsNumberByte c → c < 128
below c (inl d) = omega (arith, d.1)
below c (inr (inl e)) = omega arith
below c (inr (inr (inl e))) = omega arith
below c (inr (inr (inr e))) = omega arith

one : (c : ℕ) → c < 128 → (cs : List ℕ) → IsAscii cs → IsAscii (c ∷ cs)
one c h cs a zero = h
one c h cs a (suc i) = a i

are_ascii : (text : List ℕ) → AreNumberBytes text → IsAscii text
are_ascii [] h = λ i. omega arith
are_ascii (c ∷ cs) h = one c (below c h.0) cs (are_ascii cs h.1)

-- a decimal with its sign
pub decimal_ascii : (s debug : Bool) (n power : ℕ) → n < 10 ^ 17 → power < 1000 → IsAscii (sign_text s ++ decimal_text debug n power)
decimal_ascii s debug n power h small = are_ascii (sign_text s ++ decimal_text debug n power) (decimal_bytes s debug n power h small)
