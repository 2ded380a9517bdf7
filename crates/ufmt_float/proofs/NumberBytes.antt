-- The bytes of the texts of floats: digits, `-`, `.` and `e`, or one of three words.
use Rattle.core.specs.Prelude.{◌≡◌, ℕ, zero, suc, ◌^◌, ◌<◌, ◌≤◌, ◌⊎◌, List, [], ◌∷◌, ◌++◌, length, Bool, true, false, if◌then◌else◌, T, ⊤}
use mathlib.Core.Path.{refl, sym, subst, ap}
use mathlib.Core.Logic.{inl, inr}
use native.Mathlib.Omega.{arith}
use lib.Chars.{codes}
use lib.Ieee.{Float, Format, nan, inf, fin, fits}
use Rattle.core.specs.Fmt.{sign_text}
use Rattle.core.specs.Float.Numeral.{Parts, text_of, exponent_text, IsWellFormed, dot}
use Rattle.core.specs.Str.Parse.{AllDigits}
use Rattle.core.proofs.str.DigitBytes.{digit_at}
use Rattle.std.proofs.Common.{length-append}
use Rattle.ufmt_float.specs.Text.{IsFloatText, decimal_text}
use Rattle.ufmt_float.proofs.Existence.{one_decimal}
use Rattle.ufmt_float.proofs.Parsing.{decimal_numeral}
use Rattle.ufmt_float.proofs.TextLaws.{decimal_of}

abbrev pub IsNumberByte : ℕ → Type 0
IsNumberByte c = ((48 ≤ c) × (c ≤ 57)) ⊎ (c ≡ 45) ⊎ (c ≡ 46) ⊎ (c ≡ 101)

abbrev pub AreNumberBytes : List ℕ → Type 0
AreNumberBytes [] = ⊤
AreNumberBytes (c ∷ cs) = IsNumberByte c × AreNumberBytes cs

join : (a b : List ℕ) → AreNumberBytes a → AreNumberBytes b → AreNumberBytes (a ++ b)
join [] b h k = k
join (c ∷ a) b h k = (h.0, join a b h.1 k)

digits : (ds : List ℕ) → AllDigits 10 ds → AreNumberBytes ds
digits [] all = tt
digits (d ∷ ds) all = let r = digit_at (d ∷ ds) 0 all (omega arith) in (inl (omega (arith, r), omega (arith, r)), digits ds all.1)

sign : (s : Bool) → AreNumberBytes (sign_text s)
sign true = (inr (inl refl), tt)
sign false = tt

exponent : (negative : Bool) (ds : List ℕ) → AllDigits 10 ds → AreNumberBytes (exponent_text negative ds)
exponent negative [] all = tt
exponent negative (d ∷ ds) all = (inr (inr (inr refl)), join (sign_text negative) (d ∷ ds) (sign negative) (digits (d ∷ ds) all))

fraction : (point : Bool) (ds : List ℕ) → AllDigits 10 ds → AreNumberBytes (if point then dot ∷ ds else [])
fraction true ds all = (inr (inr (inl refl)), digits ds all)
fraction false ds all = tt

numeral : (p : Parts) → IsWellFormed p → AreNumberBytes (text_of p)
numeral p w =
    join p.whole ((if p.point then dot ∷ p.fraction else []) ++ exponent_text p.exponent_negative p.exponent) (digits p.whole w.whole_digits)
    (join (if p.point then dot ∷ p.fraction else []) (exponent_text p.exponent_negative p.exponent) (fraction p.point p.fraction w.fraction_digits) (exponent p.exponent_negative p.exponent w.exponent_digits))

-- a decimal with its sign
pub decimal_bytes : (s debug : Bool) (n power : ℕ) → n < 10 ^ 17 → power < 1000 → AreNumberBytes (sign_text s ++ decimal_text debug n power)
decimal_bytes s debug n power h small =
    let is = decimal_numeral debug n power h small in
    join (sign_text s) (decimal_text debug n power) (sign s) (subst AreNumberBytes (sym is.spelled) (numeral is.parts is.well))

-- it isn't empty
some : (s debug : Bool) (n power : ℕ) → n < 10 ^ 17 → power < 1000 → 0 < length (sign_text s ++ decimal_text debug n power)
some s debug n power h small =
    let is = decimal_numeral debug n power h small in
    omega (arith, length-append (sign_text s) (decimal_text debug n power), ap length is.spelled, length-append is.parts.whole ((if is.parts.point then dot ∷ is.parts.fraction else []) ++ exponent_text is.parts.exponent_negative is.parts.exponent), is.whole)

abbrev pub IsNumber : List ℕ → Type 0
IsNumber text = (0 < length text) × AreNumberBytes text

-- the text of a float
pub number_or_word : (f : Format) (debug : Bool) (x : Float) (text : List ℕ) → T (fits f x) → IsFloatText f debug x text
    → IsNumber text ⊎ (text ≡ codes "NaN") ⊎ (text ≡ codes "inf") ⊎ (text ≡ codes "-inf")
number_or_word f debug nan text h t = inr (inl t)
number_or_word f debug (inf false) text h t = inr (inr (inl t))
number_or_word f debug (inf true) text h t = inr (inr (inr t))
number_or_word f debug (fin s zero e) text h t =
    let few : t.0 < 10 ^ 17 = omega (arith, t.2.0) in
    let within : t.1 < 1000 = omega (arith, t.2.1) in
    inl (subst IsNumber (sym t.3) (some s debug t.0 t.1 few within, decimal_bytes s debug t.0 t.1 few within))
number_or_word f debug (fin s (suc n) e) text h t =
    let d = decimal_of f s n e h in
    let one = one_decimal f (fin false (suc n) e) t.0 t.1 d.digits d.power t.2 d.shortest in
    let few : t.0 < 10 ^ 17 = omega (arith, d.few, one.0) in
    let within : t.1 < 1000 = omega (arith, d.within, one.1) in
    inl (subst IsNumber (sym t.3) (some s debug t.0 t.1 few within, decimal_bytes s debug t.0 t.1 few within))
