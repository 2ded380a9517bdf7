-- The longest prefix of a text that fits and is UTF-8.
use Rattle.std.proofs.Common.{◌≡◌, ◌∙◌, sym, ap, subst, inl, inr, ℕ, ◌+◌, ◌-◌, ◌<◌, ◌≤◌, List, [], ◌∷◌, ◌++◌, length, take, drop, append_assoc, append-nil, length-append, length-drop, encode_utf8, arith}
use Rattle.std.proofs.Math.Seq.{take-append-add, take-append_seam, drop-append_seam, take-length}
use Rattle.std.proofs.lemmas.Bool.{cases_lt}
use Rattle.std.proofs.lemmas.List.{length-take, length-take-le, take-append-drop, take-append-le, take-take, take_all}
use Rattle.std.proofs.lemmas.Str.{IsCharBoundary-end, IsCharBoundary-from_take, IsCharBoundary-past_char, IsUtf8-drop, IsUtf8-take, encode_same, length-encode, len_utf8_bounds, utf8_valid_len-IsUtf8, utf8_valid_len-IsValidUpTo}
use Rattle.std.specs.Str.{IsCharBoundary, IsUtf8, encode_utf8_all}
use Rattle.std.specs.Str.Lossy.{utf8_valid_len}
use Rattle.ufmt.specs.Cut.{fitting_part}

-- a text begins with a character
record Begins (text : List ℕ) : Type 0 where
  pub character : ℕ
  pub rest : List ℕ
  pub split : text ≡ encode_utf8 character ++ rest

begins : (text cs : List ℕ) → encode_utf8_all cs ≡ text → 0 < length text → Begins text
begins text [] e some = absurd (omega (arith, some, ap length e))
begins text (c ∷ cs) e some = record { character = c; rest = encode_utf8_all cs; split = sym e }

-- a part of one character is no text
no_part : (c k : ℕ) → 0 < k → k < length (encode_utf8 c) → ¬ (IsUtf8 (take k (encode_utf8 c)))
no_part c k some short u =
    let part = take k (encode_utf8 c) in
    let len = length-take-le k (encode_utf8 c) (omega arith) in
    let b = begins part u.0 u.1.1 (omega arith) in
    let left = drop k (encode_utf8 c) in
    let whole : encode_utf8 c ++ [] ≡ encode_utf8 b.character ++ (b.rest ++ left) =
    append-nil (encode_utf8 c) ∙ sym (take-append-drop k (encode_utf8 c)) ∙ ap (λ t. t ++ left) b.split ∙ append_assoc (encode_utf8 b.character) b.rest left in
    let none = (encode_same c b.character [] (b.rest ++ left) whole).1 in
    absurd (omega (arith, ap length none, length-append b.rest left, length-drop k (encode_utf8 c)))

-- after a text too
no_text : (front : List ℕ) (c k : ℕ) → IsUtf8 front → 0 < k → k < length (encode_utf8 c) → ¬ (IsUtf8 (front ++ take k (encode_utf8 c)))
no_text front c k first some short u =
    let part = take k (encode_utf8 c) in
    let boundary = IsCharBoundary-from_take (front ++ part) (length front) u (omega (arith, length-append front part)) (subst IsUtf8 (sym (take-append_seam front part)) first) in
    no_part c k some short (subst IsUtf8 (drop-append_seam front part) (IsUtf8-drop (front ++ part) (length front) u boundary))

-- a text that fits, fits whole
pub fitting_whole : (room : ℕ) (text : List ℕ) → length text ≤ room → IsUtf8 text → fitting_part room text ≡ text
fitting_whole room text fits u =
    let all = take_all room text fits in
    ap (λ t. take (utf8_valid_len t) text) all ∙ ap (λ n. take n text) (utf8_valid_len-IsUtf8 text u) ∙ take-length text

-- a text that fits up to a character which doesn't
module _ (room : ℕ) (text front rest : List ℕ) (c : ℕ) (split : text ≡ front ++ (encode_utf8 c ++ rest)) (u : IsUtf8 front) (fits : length front ≤ room)
    (long : room < length front + length (encode_utf8 c)) where
  -- a longer prefix that fits ends inside the character
  longer : (m : ℕ) → length front < m → m ≤ room → take m text ≡ front ++ take (m - length front) (encode_utf8 c)
  longer m more within =
      let k = m - length front in
      let all : m ≡ length front + k = omega arith in
      ap (take m) split ∙ ap (λ n. take n (front ++ (encode_utf8 c ++ rest))) all ∙ take-append-add front (encode_utf8 c ++ rest) k
      ∙ ap (λ t. front ++ t) (take-append-le k (encode_utf8 c) rest (omega arith))

  front_is : take (length front) text ≡ front
  front_is = ap (take (length front)) split ∙ take-append_seam front (encode_utf8 c ++ rest)

  not_longer : length front < room → (m : ℕ) → length front < m → ¬ (IsUtf8 (take m (take room text)))
  not_longer below m more h = elim (cases_lt room m) [
    | inl past ↦
        no_text front c (room - length front) u (omega arith) (omega arith) (subst IsUtf8 (take_all m (take room text) (omega (arith, length-take room text)) ∙ longer room below (omega arith)) h)
    | inr within ↦ no_text front c (m - length front) u (omega arith) (omega arith) (subst IsUtf8 (take-take m room text within ∙ longer m more within) h)
  ]

  valid : utf8_valid_len (take room text) ≡ length front
  valid = elim (cases_lt (length front) room) [
    | inl below ↦ utf8_valid_len-IsValidUpTo (take room text) (length front) (record {
      short = omega (arith, length-take room text, ap length split, length-append front (encode_utf8 c ++ rest), length-append (encode_utf8 c) rest);
      front = subst IsUtf8 (sym (take-take (length front) room text fits ∙ front_is)) u;
      longest = not_longer below;
    })
    | inr full ↦
        let same : room ≡ length front = omega arith in
        let taken : take room text ≡ front = ap (λ n. take n text) same ∙ front_is in
        ap utf8_valid_len taken ∙ utf8_valid_len-IsUtf8 front u
  ]

  pub fitting_cut : fitting_part room text ≡ front
  fitting_cut = ap (λ n. take n text) valid ∙ front_is

-- what `floor_char_boundary` returns of a text
module _ (text : List ℕ) (u : IsUtf8 text) (room taken : ℕ) (bound : taken ≤ room) (boundary : IsCharBoundary text taken)
    (nearest : (i : ℕ) → taken < i → i ≤ room → ¬ (IsCharBoundary text i)) where
  -- a character that doesn't fit comes next
  pub record Next : Type 0 where
    pub character : ℕ
    pub rest : List ℕ
    pub split : text ≡ take taken text ++ (encode_utf8 character ++ rest)
    pub long : room < taken + length (encode_utf8 character)

  pub next : taken < length text → Next
  next more =
      let after = IsUtf8-drop text taken u boundary in
      let b = begins (drop taken text) after.0 after.1.1 (omega (arith, length-drop taken text)) in
      let len = length-encode b.character in
      let bounds = len_utf8_bounds b.character in record {
        character = b.character;
        rest = b.rest;
        split = sym (take-append-drop taken text) ∙ ap (λ t. take taken text ++ t) b.split;
        long = elim (cases_lt room (taken + length (encode_utf8 b.character))) [
          | inl long ↦ long
          | inr short ↦ absurd (nearest _ (omega arith) (omega arith) (IsCharBoundary-past_char text b.rest taken b.character boundary.0 after b.split))
        ];
      }

  pub fits_whole : length text ≤ room → taken ≡ length text
  fits_whole fits = elim (cases_lt taken (length text)) [
    | inl below ↦ absurd (nearest (length text) below fits (IsCharBoundary-end text))
    | inr all ↦ omega (arith, boundary.0)
  ]

  pub taken_is : fitting_part room text ≡ take taken text
  taken_is = elim (cases_lt taken (length text)) [
    | inl below ↦
        let n = next below in
        let len = length-take-le taken text boundary.0 in
        fitting_cut room text (take taken text) n.rest n.character n.split (IsUtf8-take text taken u boundary) (omega arith) (omega (arith, n.long))
    | inr all ↦ fitting_whole room text (omega arith) u ∙ sym (take_all taken text all)
  ]
