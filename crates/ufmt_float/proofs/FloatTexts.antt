-- From a float's parts and its decimal to its text.
use Rattle.core.specs.Prelude.{◌≡◌, ℕ, zero, suc, ◌+◌, ◌*◌, ◌^◌, ◌<◌, List, ◌++◌, Bool, false}
use mathlib.Core.Path.{sym, ap, ◌∙◌, subst}
use native.Mathlib.Omega.{arith}
use native.Mathlib.Nat.{mul-pos}
use lib.Pow.{pow_pos}
use lib.Ieee.{Float, Format, nan, inf, fin, hid, low, of_bits}
use lib.Ieee.Exact.{HasValue}
use lib.Ieee.Fits.{down_pos}
use Rattle.core.specs.Fmt.{sign_text}
use Rattle.core.specs.Float.{float_with_sign, is_sign_negative}
use Rattle.ufmt_float.specs.Parts.{HasParts}
use Rattle.ufmt_float.specs.Shortest.{IsShortestDecimal}
use Rattle.ufmt_float.specs.Text.{IsFloatText, decimal_text}
use Rattle.ufmt_float.proofs.Shortness.{value_of_bits}

by_kind : (f : Format) (debug : Bool) (x : Float) (negative : Bool) (m k digits power : ℕ) (text : List ℕ) → 0 < m * 2 ^ k → HasValue (float_with_sign false x) false (m * 2 ^ k) (2 ^ low f)
    → is_sign_negative x ≡ negative → IsShortestDecimal f (float_with_sign false x) digits power → text ≡ sign_text negative ++ decimal_text debug digits power → IsFloatText f debug x text
unfolding float_with_sign is_sign_negative
by_kind f debug nan negative m k digits power text pos v s short e = absurd v
by_kind f debug (inf t) negative m k digits power text pos v s short e = absurd v
by_kind f debug (fin t zero z) negative m k digits power text pos v s short e = absurd (omega (arith, v.1, mul-pos pos (down_pos z)))
by_kind f debug (fin t (suc n) z) negative m k digits power text pos v s short e = (digits, power, short, e ∙ ap (λ b. sign_text b ++ decimal_text debug digits power) (sym s))

-- the text of a finite float that is not 0
pub finite_text : (f : Format) (debug : Bool) (x : Float) (negative : Bool) (m k digits power : ℕ) (text : List ℕ) → HasParts f x negative m k
    → IsShortestDecimal f (of_bits f (k * hid f + m)) digits power → text ≡ sign_text negative ++ decimal_text debug digits power → IsFloatText f debug x text
finite_text f debug x negative m k digits power text h short e =
    by_kind f debug x negative m k digits power text (mul-pos h.parts.some (pow_pos k))
    (subst (λ y. HasValue y false (m * 2 ^ k) (2 ^ low f)) (sym h.size) (value_of_bits f m k h.parts.significand h.parts.finite))
    h.sign (subst (λ y. IsShortestDecimal f y digits power) (sym h.size) short) e
