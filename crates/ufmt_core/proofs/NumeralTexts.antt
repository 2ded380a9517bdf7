-- Texts of numbers by their digits in a base, each digit as a byte: decimal and hexadecimal texts alike.
use Rattle.std.proofs.Common.{◌≡◌, ℕ, ◌/◌, ◌%◌, ◌^◌, ◌<◌, ◌≤◌, List, [], ◌∷◌, ◌++◌, map, length, refl, sym, ap, ap₂, ◌∙◌, arith}
use Rattle.std.specs.Str.{IsAscii}
use Rattle.std.proofs.lemmas.List.{length-map, map-append}
use Rattle.std.proofs.lemmas.List.Elements.{All-map}
use Rattle.std.proofs.lemmas.Str.Ascii.{IsAscii-from_all}
use Rattle.ufmt_core.specs.Decimal.{value_in_base, DenotesInBase, numeral}
use Rattle.ufmt_core.proofs.Numerals.{DenotesInBase-one, numeral-denotes, numeral-digit, numeral-step, length-numeral-le}

-- bytes of digits, one for each digit, determine the digits
bytes_same : (byte_of : ℕ → ℕ) → ((x y : ℕ) → byte_of x ≡ byte_of y → x ≡ y) → (xs ys : List ℕ) → map byte_of xs ≡ map byte_of ys → xs ≡ ys
bytes_same byte_of injective [] [] same = refl
bytes_same byte_of injective [] (y ∷ ys) same = cc
bytes_same byte_of injective (x ∷ xs) [] same = cc
bytes_same byte_of injective (x ∷ xs) (y ∷ ys) same =
    let first : byte_of x ≡ byte_of y = cc in
    let rest : map byte_of xs ≡ map byte_of ys = cc in
    ap₂ (λ n ns. n ∷ ns) (injective x y first) (bytes_same byte_of injective xs ys rest)

module _ (base : ℕ) (byte_of : ℕ → ℕ) {s t xs ys : List ℕ} where
  -- a number has one text
  pub one_text : (n : ℕ) → 2 ≤ base → s ≡ map byte_of xs → DenotesInBase base xs n → t ≡ map byte_of ys → DenotesInBase base ys n → s ≡ t
  one_text n two bytes_s denotes_s bytes_t denotes_t = bytes_s ∙ ap (map byte_of) (DenotesInBase-one base n xs ys two denotes_s denotes_t) ∙ sym bytes_t

  -- a text denotes one number
  pub one_number : (m n : ℕ) → ((x y : ℕ) → byte_of x ≡ byte_of y → x ≡ y) → s ≡ t → s ≡ map byte_of xs → DenotesInBase base xs m
      → t ≡ map byte_of ys → DenotesInBase base ys n → m ≡ n
  one_number m n injective same bytes_s denotes_s bytes_t denotes_t =
      sym denotes_s.value ∙ ap (value_in_base base) (bytes_same byte_of injective xs ys (sym bytes_s ∙ same ∙ bytes_t)) ∙ denotes_t.value

-- `text` gives each number's digits in this base as these bytes
pub record IsTextInBase (base : ℕ) (byte_of : ℕ → ℕ) (text : ℕ → List ℕ) : Type 0 where
  pub two : 2 ≤ base
  pub by_digits : (n : ℕ) → text n ≡ map byte_of (numeral base n)

module _ {base : ℕ} {byte_of : ℕ → ℕ} {text : ℕ → List ℕ} (t : IsTextInBase base byte_of text) where
  -- a number below the base is one digit
  pub text-digit : (n : ℕ) → n < base → text n ≡ byte_of n ∷ []
  text-digit n low = t.by_digits n ∙ ap (map byte_of) (numeral-digit base n t.two low)

  -- the last digit is the remainder by the base, and the text before it is the text of the quotient
  pub text-step : (n : ℕ) → base ≤ n → text n ≡ text (n / base) ++ (byte_of (n % base) ∷ [])
  text-step n high =
      t.by_digits n ∙ ap (map byte_of) (numeral-step base n t.two high) ∙ map-append byte_of (numeral base (n / base)) (n % base ∷ [])
      ∙ ap (λ front. front ++ (byte_of (n % base) ∷ [])) (sym (t.by_digits (n / base)))

  -- a text has a digit
  pub text-nonempty : (n : ℕ) → 0 < length (text n)
  text-nonempty n = omega (arith, ap length (t.by_digits n), length-map (numeral base n) byte_of, (numeral-denotes base n t.two).some_digit)

  -- a number below the base to the power k has at most k digits
  pub length-text-le : (k n : ℕ) → 0 < k → n < base ^ k → length (text n) ≤ k
  length-text-le k n some low = omega (arith, ap length (t.by_digits n), length-map (numeral base n) byte_of, length-numeral-le base k n t.two some low)

  -- if the bytes of digits are ASCII, so is the text
  pub IsAscii-text : ((digit : ℕ) → digit < base → byte_of digit < 128) → (n : ℕ) → IsAscii (text n)
  IsAscii-text ascii n =
      let below = (numeral-denotes base n t.two).below_base in
      rw (t.by_digits n) (IsAscii-from_all (map byte_of (numeral base n))
      (All-map (λ byte. byte < 128) byte_of (numeral base n) (λ k d within. ascii _ (below k d within))))
