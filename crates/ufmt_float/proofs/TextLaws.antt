-- The laws of the texts of floats.
use Rattle.core.specs.Prelude.{◌≡◌, ℕ, zero, suc, ◌-◌, ◌*◌, ◌^◌, ◌<◌, ◌++◌, Bool, true, false, T, ℤ}
use mathlib.Core.Path.{refl, sym, ap, ◌∙◌, subst}
use native.Mathlib.Omega.{arith}
use lib.Chars.{codes}
use lib.Ieee.{Float, Format, binary32, binary64, nan, inf, fin, fits, neg, round}
use lib.Ieee.Back.{round_whole, whole_unique}
use lib.Ieee.Fits.{round-fits}
use Rattle.core.specs.Fmt.{sign_text}
use Rattle.core.specs.Float.{float_with_sign}
use Rattle.core.specs.declared.option.Option.TheVariants.{Some}
use Rattle.core.specs.Float.Parse.{parse_float}
use Rattle.core.proofs.dec2flt.Patterns.{neg-round}
use Rattle.std.proofs.lemmas.Float.Parse.{parse_float_on_literals}
use Rattle.ufmt_float.specs.Laws.{TextsAreParsed, NoTwoFloatsHaveOneText, EachFloatHasAText, NoFloatHasTwoTexts}
use Rattle.ufmt_float.specs.Text.{decimal_text}
use Rattle.ufmt_float.proofs.Existence.{HasDecimal, exists_decimal, one_decimal, parts_exist}
use Rattle.ufmt_float.proofs.Parsing.{decimal_parsed}

size_of : (s : Bool) (n : ℕ) (e : ℤ) → float_with_sign false (fin s (suc n) e) ≡ fin false (suc n) e
unfolding float_with_sign
size_of s n e = refl

-- a finite float that isn't 0 has a decimal
pub decimal_of : (f : Format) (s : Bool) (n : ℕ) (e : ℤ) → T (fits f (fin s (suc n) e)) → HasDecimal f (fin false (suc n) e)
decimal_of f s n e h = let p = parts_exist f s n e h in subst (HasDecimal f) (sym p.2.size ∙ size_of s n e) (exists_decimal f p.0 p.1 p.2.parts)

signed : (f : Format) (s : Bool) (a c n : ℕ) (e : ℤ) → round f false a c ≡ fin false n e → round f s a c ≡ fin s n e
unfolding neg
signed f false a c n e h = h
signed f true a c n e h = sym (neg-round f a c) ∙ ap neg h

zero_read : (f : Format) (s : Bool) (e : ℤ) → T (fits f (fin s zero e)) → round f s (0 * 10 ^ (400 - 400)) (10 ^ (400 - 400)) ≡ fin s zero e
zero_read f s e h = whole_unique f _ _ s 0 (round-fits f s 0 1) h (round_whole f s 0 (omega arith)) (refl, omega arith)

words : (f : Format) → (parse_float f (codes "NaN") ≡ Some nan) × (parse_float f (codes "inf") ≡ Some (inf false)) × (parse_float f (codes "-inf") ≡ Some (inf true))
unfolding parse_float_on_literals
words binary32 = (refl, refl, refl)
words binary64 = (refl, refl, refl)

pub texts_are_parsed : TextsAreParsed
texts_are_parsed f debug nan text h t = ap (parse_float f) t ∙ (words f).0
texts_are_parsed f debug (inf false) text h t = ap (parse_float f) t ∙ (words f).1
texts_are_parsed f debug (inf true) text h t = ap (parse_float f) t ∙ (words f).2
texts_are_parsed f debug (fin s zero e) text h t =
    let parsed = decimal_parsed f s debug 0 400 (omega arith) (omega arith) in
    ap (parse_float f) t.3 ∙ (λ i. parse_float f (sign_text s ++ decimal_text debug (t.2.0 i) (t.2.1 i))) ∙ parsed ∙ ap Some (zero_read f s e h)
texts_are_parsed f debug (fin s (suc n) e) text h t =
    let d = decimal_of f s n e h in
    let one = one_decimal f (fin false (suc n) e) t.0 t.1 d.digits d.power t.2 d.shortest in
    let few : t.0 < 10 ^ 17 = omega (arith, d.few, one.0) in
    let within : t.1 < 1000 = omega (arith, d.within, one.1) in
    ap (parse_float f) t.3 ∙ decimal_parsed f s debug t.0 t.1 few within ∙ ap Some (signed f s _ _ (suc n) e t.2.reads)

some_same : (x y : Float) → Some x ≡ Some y → x ≡ y
some_same x y e = (cc)

pub no_two_floats : NoTwoFloatsHaveOneText
no_two_floats f debug x y text hx hy tx ty = some_same x y (sym (texts_are_parsed f debug x text hx tx) ∙ texts_are_parsed f debug y text hy ty)

pub each_has_text : EachFloatHasAText
each_has_text f debug nan h = (codes "NaN", refl)
each_has_text f debug (inf s) h = (sign_text s ++ codes "inf", refl)
each_has_text f debug (fin s zero e) h = (sign_text s ++ decimal_text debug 0 400, (0, 400, (refl, refl), refl))
each_has_text f debug (fin s (suc n) e) h =
    let d = decimal_of f s n e h in
    (sign_text s ++ decimal_text debug d.digits d.power, (d.digits, d.power, d.shortest, refl))

pub one_text : NoFloatHasTwoTexts
one_text f debug nan a b t u = t ∙ sym u
one_text f debug (inf s) a b t u = t ∙ sym u
one_text f debug (fin s zero e) a b t u =
    t.3 ∙ (λ i. sign_text s ++ decimal_text debug (t.2.0 i) (t.2.1 i)) ∙ sym (u.3 ∙ (λ i. sign_text s ++ decimal_text debug (u.2.0 i) (u.2.1 i)))
one_text f debug (fin s (suc n) e) a b t u =
    let one = one_decimal f (fin false (suc n) e) t.0 t.1 u.0 u.1 t.2 u.2 in
    t.3 ∙ (λ i. sign_text s ++ decimal_text debug (one.0 i) (one.1 i)) ∙ sym u.3
