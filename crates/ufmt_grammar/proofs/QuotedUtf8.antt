-- Bytes are UTF-8 exactly if their spelling in quotes is UTF-8.
use Rattle.std.proofs.Common.{◌≡◌, ◌⊎◌, inl, inr, refl, sym, ap, subst, ◌∙◌, ℕ, suc, ◌/◌, ◌%◌, ◌+◌, ◌<◌, nat_lt, Bool, true, false, List, [], ◌∷◌, ◌++◌, codes, length, get_or, append_assoc, length-append, arith}
use borrow.Author.Tests.{ltb-true}
use Rattle.std.specs.Prelude.{◌↔◌}
use Rattle.std.specs.Char.{digit_char}
use Rattle.std.specs.Str.{IsAscii, IsUtf8}
use Rattle.std.proofs.Math.Seq.{get_or-append_seam, take-append_seam, drop-append-add}
use Rattle.std.proofs.lemmas.Bool.Decides.{nat_tests}
use Rattle.std.proofs.lemmas.Str.{IsAscii-append, IsCharBoundary-after_ascii, IsCharBoundary-before_ascii, IsUtf8-append, IsUtf8-drop, IsUtf8-from_ascii, IsUtf8-take}
use Rattle.std.proofs.lemmas.Str.Ascii.{IsAscii-cons, IsAscii-nil}
use Rattle.ufmt_core.specs.Bytes.{backslash, closing_brace, opening_brace}
use Rattle.ufmt_core.specs.Quoted.{IsQuote, escaped_byte, escaped_bytes, hex_digits}
use Rattle.ufmt_grammar.proofs.QuotedDecoded.{each_row}

one_ascii : (c : ℕ) → c < 128 → IsAscii (c ∷ [])
one_ascii c low = IsAscii-cons c [] low IsAscii-nil

-- the bytes before and after an ASCII byte of a UTF-8 text are UTF-8
IsUtf8-cut : (xs rest : List ℕ) (c : ℕ) → c < 128 → IsUtf8 (xs ++ (c ∷ rest)) → IsUtf8 xs × IsUtf8 rest
IsUtf8-cut xs rest c low u =
    let whole = xs ++ (c ∷ rest) in
    let within : length xs < length whole = omega (arith, length-append xs (c ∷ rest)) in
    let ascii : get_or whole (length xs) 0 < 128 = subst (λ b. b < 128) (sym (get_or-append_seam xs c rest 0)) low in (
      subst IsUtf8 (take-append_seam xs (c ∷ rest)) (IsUtf8-take whole (length xs) u (IsCharBoundary-before_ascii whole (length xs) within ascii)),
      subst IsUtf8 (drop-append-add xs (c ∷ rest) 1) (IsUtf8-drop whole (length xs + 1) u (IsCharBoundary-after_ascii whole (length xs) u within ascii)),
    )

-- the bytes after ASCII bytes in a UTF-8 text are UTF-8
IsUtf8-past : (text rest : List ℕ) → IsAscii text → IsUtf8 (text ++ rest) → IsUtf8 rest
IsUtf8-past [] rest ascii u = u
IsUtf8-past (c ∷ text) rest ascii u = IsUtf8-past text rest (λ i. ascii (suc i)) (IsUtf8-cut [] (text ++ rest) c (ascii 0) u).1

-- a byte is written as itself, or it is ASCII and is written as a backslash and more ASCII
abbrev pub Spelling : ℕ → List ℕ → Type 0
Spelling b e = (e ≡ b ∷ []) ⊎ ((more : List ℕ) × (e ≡ backslash ∷ more) × IsAscii more × (b < 128))

digit_ascii : (d : ℕ) → d < 16 → digit_char d < 128
digit_ascii d low = grind (arith, nat_tests)

digits_ascii : (b : ℕ) (short : Bool) → nat_lt b 16 ≡ short → b < 128 → IsAscii (hex_digits b)
digits_ascii b true short low = rw short (one_ascii (digit_char b) (digit_ascii b (ltb-true b 16 short)))
digits_ascii b false short low = rw short
    (IsAscii-cons (digit_char (b / 16)) (digit_char (b % 16) ∷ []) (digit_ascii (b / 16) (omega arith))
    (one_ascii (digit_char (b % 16)) (digit_ascii (b % 16) (omega arith))))

braces_ascii : (b : ℕ) → b < 128 → IsAscii (codes "u{" ++ (hex_digits b ++ codes "}"))
braces_ascii b low =
    IsAscii-cons 117 (codes "{" ++ (hex_digits b ++ codes "}")) (omega arith)
    (IsAscii-cons opening_brace (hex_digits b ++ codes "}") (omega arith)
    (IsAscii-append (hex_digits b) (codes "}") (digits_ascii b (nat_lt b 16) refl low) (one_ascii closing_brace (omega arith))))

itself_ascii : (q b : ℕ) → IsQuote q → (b ≡ backslash) ⊎ (b ≡ q) → b < 128
itself_ascii q b quote (inl e) = omega (arith, e)
itself_ascii q b (inl h) (inr e) = omega (arith, e, h)
itself_ascii q b (inr h) (inr e) = omega (arith, e, h)

pub spelling : (q b : ℕ) → IsQuote q → Spelling b (escaped_byte q b)
spelling q b quote =
    each_row q b Spelling (letter 0 48 (omega arith) (omega arith)) (letter 9 116 (omega arith) (omega arith))
    (letter 10 110 (omega arith) (omega arith)) (letter 13 114 (omega arith) (omega arith))
    (λ itself. letter b b (itself_ascii q b quote itself) (itself_ascii q b quote itself))
    (λ low. inr (codes "u{" ++ (hex_digits b ++ codes "}"), refl, braces_ascii b low, low))
    (λ no_control itself. inl refl)
  where
    letter : (n x : ℕ) → n < 128 → x < 128 → Spelling n (backslash ∷ x ∷ [])
    letter n x low low' = inr (x ∷ [], refl, one_ascii x low', low)

goes_on : (xs rest : List ℕ) (b : ℕ) → xs ++ (b ∷ rest) ≡ (xs ++ (b ∷ [])) ++ rest
goes_on xs rest b = sym (append_assoc xs (b ∷ []) rest)

module _ (q : ℕ) (quote : IsQuote q) where
  -- if `xs` and the spelling of bytes are UTF-8 together, so are `xs` and the bytes
  utf8-decoded : (bs xs : List ℕ) → IsUtf8 (xs ++ escaped_bytes q bs) → IsUtf8 (xs ++ bs)
  utf8-decoded [] xs u = u
  utf8-decoded (b ∷ bs) xs u = elim (spelling q b quote) [
    | inl plain ↦ subst IsUtf8 (sym (goes_on xs bs b))
        (utf8-decoded bs (xs ++ (b ∷ [])) (subst IsUtf8 (ap (λ e. xs ++ (e ++ escaped_bytes q bs)) plain ∙ goes_on xs (escaped_bytes q bs) b) u))
    | inr escape ↦
        let parts = IsUtf8-cut xs (escape.0 ++ escaped_bytes q bs) backslash (omega arith) (subst IsUtf8 (ap (λ e. xs ++ (e ++ escaped_bytes q bs)) escape.1) u) in
        let rest = utf8-decoded bs [] (IsUtf8-past escape.0 (escaped_bytes q bs) escape.2 parts.1) in
        IsUtf8-append xs (b ∷ bs) parts.0 (IsUtf8-append (b ∷ []) bs (IsUtf8-from_ascii (b ∷ []) (one_ascii b escape.3)) rest)
  ]

  -- the converse holds
  utf8-escaped : (bs xs : List ℕ) → IsUtf8 (xs ++ bs) → IsUtf8 (xs ++ escaped_bytes q bs)
  utf8-escaped [] xs u = u
  utf8-escaped (b ∷ bs) xs u = elim (spelling q b quote) [
    | inl plain ↦ subst IsUtf8 (sym (ap (λ e. xs ++ (e ++ escaped_bytes q bs)) plain ∙ goes_on xs (escaped_bytes q bs) b))
        (utf8-escaped bs (xs ++ (b ∷ [])) (subst IsUtf8 (goes_on xs bs b) u))
    | inr escape ↦
        let parts = IsUtf8-cut xs bs b escape.3 u in
        let front : IsUtf8 (backslash ∷ escape.0) = IsUtf8-from_ascii (backslash ∷ escape.0) (IsAscii-cons backslash escape.0 (omega arith) escape.2) in
        subst IsUtf8 (sym (ap (λ e. xs ++ (e ++ escaped_bytes q bs)) escape.1))
        (IsUtf8-append xs ((backslash ∷ escape.0) ++ escaped_bytes q bs) parts.0
        (IsUtf8-append (backslash ∷ escape.0) (escaped_bytes q bs) front (utf8-escaped bs [] parts.1)))
  ]

  -- the same holds with quotes around the spelling
  pub quoted-utf8 : (bs : List ℕ) → IsUtf8 (q ∷ (escaped_bytes q bs ++ (q ∷ []))) ↔ IsUtf8 bs
  quoted-utf8 bs = (
    λ u. utf8-decoded bs [] (IsUtf8-cut (escaped_bytes q bs) [] q ascii (IsUtf8-cut [] (escaped_bytes q bs ++ (q ∷ [])) q ascii u).1).0,
    λ u. IsUtf8-append (q ∷ []) (escaped_bytes q bs ++ (q ∷ [])) one (IsUtf8-append (escaped_bytes q bs) (q ∷ []) (utf8-escaped bs [] u) one),
  )
    where
      ascii : q < 128
      ascii = itself_ascii q q quote (inr refl)

      one : IsUtf8 (q ∷ [])
      one = IsUtf8-from_ascii (q ∷ []) (one_ascii q ascii)
