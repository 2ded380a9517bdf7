-- Floats taken from the front of a text: as many bytes as a float's text may have, which is read, printed and compared.
use Rattle.std.proofs.Common.{◌≡◌, ◌≢◌, ◌⊎◌, inl, inr, refl, sym, ap, ◌∙◌, subst, ℕ, suc, ◌+◌, ◌<◌, ◌≤◌, true, false, List, [], ◌∷◌, ◌++◌, take, length, codes, arith, Ok, Err, Some, None}
use Rattle.std.proofs.lemmas.Bool.{cases_Bool}
use Rattle.std.specs.Prelude.{⊤}
use Rattle.std.specs.Float.Parse.{parse_float}
use Rattle.std.specs.Str.{IsAscii}
use Rattle.std.proofs.Math.Seq.{take-append_seam}
use Rattle.std.proofs.lemmas.Bool.Decides.{nat_tests}
use Rattle.std.proofs.lemmas.Str.Ascii.{IsAscii-cons, IsAscii-nil}
use lib.Ieee.{Float, Format}
use Rattle.ufmt_float.specs.Text.{IsFloatText}
use Rattle.ufmt_float.proofs.NumberBytes.{IsNumberByte, AreNumberBytes, IsNumber, number_or_word}
use Rattle.ufmt_float.proofs.TextLaws.{texts_are_parsed}
use Rattle.ufmt_core.specs.Document.{leaf}
use Rattle.ufmt_core.specs.FloatText.{float_text, is_float_text}
use Rattle.ufmt_core.proofs.FloatTexts.{the_float_text}
use Rattle.ufmt_grammar.specs.Leaves.{IsDebugFollower}
use Rattle.ufmt_grammar.proofs.FloatLeaves.{float_is_leaf}
use Rattle.ufmt_grammar.proofs.ReadingWords.{each_ender}
use Rattle.ufmt_parse_leaves.specs.Values.{IsFloatOf}
use Rattle.ufmt_parse_leaves.specs.Private.FloatBytes.{after_float, float_len, is_float_byte}
use Rattle.ufmt_parser.specs.Taking.{Fits, Takes}
use Rattle.ufmt_parser.specs.declared.parser.Fault.TheVariants.{NotText}

-- ---- how many bytes are taken

-- the bytes at the front
abbrev pub float_front : List ℕ → List ℕ
float_front old = take (float_len old) old

number_byte : (c : ℕ) → IsNumberByte c → is_float_byte c ≡ true
number_byte c (inl d) = grind (arith, nat_tests)
number_byte c (inr (inl e)) = subst (λ b. is_float_byte b ≡ true) (sym e) refl
number_byte c (inr (inr (inl e))) = subst (λ b. is_float_byte b ≡ true) (sym e) refl
number_byte c (inr (inr (inr e))) = subst (λ b. is_float_byte b ≡ true) (sym e) refl

abbrev AreFloatBytes : List ℕ → Type 0
AreFloatBytes [] = ⊤
AreFloatBytes (c ∷ t) = (is_float_byte c ≡ true) × AreFloatBytes t

number_bytes : (t : List ℕ) → AreNumberBytes t → AreFloatBytes t
number_bytes [] all = tt
number_bytes (c ∷ t) all = (number_byte c all.0, number_bytes t all.1)

words : AreFloatBytes (codes "NaN") × AreFloatBytes (codes "inf") × AreFloatBytes (codes "-inf")
words = ((refl, (refl, (refl, tt))), (refl, (refl, (refl, tt))), (refl, (refl, (refl, (refl, tt)))))

by_kind : (t : List ℕ) → IsNumber t ⊎ (t ≡ codes "NaN") ⊎ (t ≡ codes "inf") ⊎ (t ≡ codes "-inf") → AreFloatBytes t
by_kind t (inl n) = number_bytes t n.1
by_kind t (inr (inl e)) = subst AreFloatBytes (sym e) words.0
by_kind t (inr (inr (inl e))) = subst AreFloatBytes (sym e) words.1
by_kind t (inr (inr (inr e))) = subst AreFloatBytes (sym e) words.2

float_bytes : (f : Format) (x : Float) → IsFloatOf f x → AreFloatBytes (float_text f true x)
float_bytes f x float = by_kind (float_text f true x) (number_or_word f true x (float_text f true x) float (is_float_text f true x float))

-- what may follow a value begins with none of these bytes
no_byte : (c : ℕ) (u : List ℕ) → is_float_byte c ≡ false → float_len (c ∷ u) ≡ 0
no_byte c u none = rw none refl

follower_none : (u : List ℕ) → IsDebugFollower u → float_len u ≡ 0
follower_none [] h = refl
follower_none (c ∷ []) h = no_byte c [] (each_ender (λ b. is_float_byte b ≡ false) refl refl refl refl c h)
follower_none (c ∷ b ∷ u) (inl h) = no_byte c (b ∷ u) (each_ender (λ b. is_float_byte b ≡ false) refl refl refl refl c h)
follower_none (c ∷ b ∷ u) (inr (inl h)) = no_byte c (b ∷ u) (rw h.0 refl)
follower_none (c ∷ b ∷ u) (inr (inr h)) = no_byte c (b ∷ u) (rw h.0 refl)

whole_len : (t u : List ℕ) → AreFloatBytes t → float_len u ≡ 0 → float_len (t ++ u) ≡ length t
whole_len [] u all ends = ends
whole_len (c ∷ t) u all ends = let more : 1 + float_len (t ++ u) ≡ suc (length t) = omega (arith, whole_len t u all.1 ends) in rw all.0 more

-- the bytes at the front, and what follows them
pub front_and_after : (old : List ℕ) → take (float_len old) old ++ after_float old ≡ old
front_and_after [] = refl
front_and_after (c ∷ old) = elim (cases_Bool (is_float_byte c)) [
  | inl e ↦ let more : 1 + float_len old ≡ suc (float_len old) = omega arith in rw (e, more) (ap (λ t. c ∷ t) (front_and_after old))
  | inr e ↦ rw e refl
]

none_after : (u : List ℕ) → float_len u ≡ 0 → after_float u ≡ u
none_after [] ends = refl
none_after (c ∷ u) ends = elim (cases_Bool (is_float_byte c)) [ inl e ↦ absurd (omega (arith, rw e at ends)) | inr e ↦ rw e refl ]

whole_after : (t u : List ℕ) → AreFloatBytes t → float_len u ≡ 0 → after_float (t ++ u) ≡ u
whole_after [] u all ends = none_after u ends
whole_after (c ∷ t) u all ends = rw all.0 (whole_after t u all.1 ends)

-- a float's text and what follows it are what is cut
pub record IsCut (text u old : List ℕ) : Type 0 where
  pub front : take (float_len old) old ≡ text
  pub after : after_float old ≡ u

pub cut_where : (f : Format) (x : Float) (u old : List ℕ) → IsFloatOf f x → float_len u ≡ 0 → old ≡ float_text f true x ++ u → IsCut (float_text f true x) u old
cut_where f x u old float ends same =
    let text = float_text f true x in
    let bytes = float_bytes f x float in
    let len : float_len (text ++ u) ≡ length text = whole_len text u bytes ends in
    subst (λ t. IsCut text u t) (sym same) (record {
      front = ap (λ n. take n (text ++ u)) len ∙ take-append_seam text u;
      after = whole_after text u bytes ends;
    })

cut_at : (f : Format) (x : Float) (u old : List ℕ) → IsFloatOf f x → IsDebugFollower u → old ≡ float_text f true x ++ u → IsCut (float_text f true x) u old
cut_at f x u old float may same = cut_where f x u old float (follower_none u may) same

low_byte : (c : ℕ) → is_float_byte c ≡ true → c < 128
low_byte c h = grind (arith, nat_tests)

-- these bytes are ASCII
pub front_ascii : (old : List ℕ) → IsAscii (take (float_len old) old)
front_ascii [] = IsAscii-nil
front_ascii (c ∷ old) = elim (cases_Bool (is_float_byte c)) [
  | inl e ↦
      let more : 1 + float_len old ≡ suc (float_len old) = omega arith in
      rw (e, more) (IsAscii-cons c (take (float_len old) old) (low_byte c e) (front_ascii old))
  | inr e ↦ rw e IsAscii-nil
]

-- ---- what is read

some_same : (x y : Float) → Some x ≡ Some y → x ≡ y
some_same x y e = (cc)

-- std reads a float's text as the float
reads : (f : Format) (x : Float) → IsFloatOf f x → parse_float f (float_text f true x) ≡ Some x
reads f x float = texts_are_parsed f true x (float_text f true x) float (is_float_text f true x float)

none_some : (x : Float) → None ≡ Some x → ⊥
none_some x e = (cc)

-- where std reads none, no float has the text
pub none_read : (f : Format) (text : List ℕ) → parse_float f text ≡ None → (x : Float) → IsFloatOf f x → text ≢ float_text f true x
none_read f text none x float same = none_some x (sym none ∙ ap (parse_float f) same ∙ reads f x float)

-- where it reads one that prints another text, too
pub other_read : (f : Format) (text printed : List ℕ) (y : Float) → parse_float f text ≡ Some y → IsFloatText f true y printed → printed ≢ text
    → (x : Float) → IsFloatOf f x → text ≢ float_text f true x
other_read f text printed y read prints other x float same =
    let is : y ≡ x = some_same y x (sym read ∙ ap (parse_float f) same ∙ reads f x float) in
    other (the_float_text f true x printed float (subst (λ z. IsFloatText f true z printed) is prints) ∙ sym same)

-- ---- what is taken

float_fits : (f : Format) (x : Float) (blocks : ℕ) → blocks ≤ 255 → IsFloatOf f x → Fits blocks (leaf (float_text f true x))
float_fits f x blocks most float = (float_is_leaf f true x (float_text f true x) float (is_float_text f true x float), omega arith)

module _ {V : Type 0} (f : Format) (value : V → Float) (blocks : ℕ) (old : List ℕ) where
  abbrev IsIn : V → Type 0
  IsIn v = IsFloatOf f (value v) × Fits blocks (leaf (float_text f true (value v)))

  abbrev text_of : V → List ℕ
  text_of v = float_text f true (value v)

  pub float_taken : (v : V) (new : List ℕ) → blocks ≤ 255 → IsFloatOf f (value v) → take (float_len old) old ≡ text_of v → after_float old ≡ new
      → Takes IsIn text_of old (Ok v) new
  float_taken v new most float front after = record {
    cases = (
      sym (front_and_after old) ∙ (λ i. front i ++ after i),
      (float, float_fits f (value v) blocks most float),
      λ w u is_w may same. sym (cut_at f (value w) u old is_w.0 may same).after ∙ after,
    );
  }

  pub float_refused : (new : List ℕ) → ((v : V) → IsFloatOf f (value v) → take (float_len old) old ≢ text_of v) → Takes IsIn text_of old (Err NotText) new
  float_refused new none = record { cases = λ w u is_w may same. none w is_w.0 (cut_at f (value w) u old is_w.0 may same).front }
