-- Texts that are compared line by line.
use Rattle.std.proofs.Common.{Bool, true, not, ◌≡◌, ◌≢◌, ◌∙◌, refl, ap, ap₂, sym, ℕ, zero, suc, ◌≤◌, ◌==◌, false, List, [], ◌∷◌, ◌++◌, Option, None, Some, length, take, drop, arith}
use Rattle.std.specs.Prelude.{slice_get}
use Rattle.std.specs.Bool.{Decides}
use Rattle.std.specs.Borrow.{Bor}
use Rattle.std.specs.Option.{is_some, option_copied, option_eq}
use Rattle.std.specs.Str.{bytes_eq}
use Rattle.std.proofs.lemmas.Option.{slice_get_within}
use Rattle.std.proofs.lemmas.Bool.{not-false, not_from_true}
use Rattle.std.proofs.lemmas.Slice.Eq.{bytes_eq-Decides}
use Rattle.std.specs.List.{join_with_byte, position_or_len}
use Rattle.std.proofs.lemmas.List.{take-append-drop}
use Rattle.std.proofs.lemmas.List.Sums.{count_by-le-length, fails_before_first}
use Rattle.std.proofs.lemmas.List.Splits.{length-slice_split, join_with_byte-slice_split, slice_split_none}
use Rattle.ufmt.specs.Lines.{lines_of}
use Rattle.ufmt_snapshot.specs.Private.LinesLeft.{CutsLine, lines_left}

-- a text without a line feed is one line
pub lines_of-one : (bytes : List ℕ) → position_or_len (λ b. b == 10) bytes ≡ length bytes → lines_of bytes ≡ bytes ∷ []
lines_of-one bytes none =
    let p = λ (b : ℕ). b == 10 in
    slice_split_none p bytes (λ k d within. fails_before_first p bytes k d (omega (arith, none)))

-- texts with the same lines are equal
pub lines_of-injective : (given stored : List ℕ) → lines_of given ≡ lines_of stored → given ≡ stored
lines_of-injective given stored same =
    sym (join_with_byte-slice_split 10 given) ∙ ap (join_with_byte 10) same ∙ join_with_byte-slice_split 10 stored

-- where lists agree up to an index and at it, they agree one further
pub take-further : {X : Type 0} (n : ℕ) (xs ys : List X) → take n xs ≡ take n ys → slice_get xs n ≡ slice_get ys n → take (suc n) xs ≡ take (suc n) ys
take-further zero [] [] before here = refl
take-further zero [] (y ∷ ys) before here = cc
take-further zero (x ∷ xs) [] before here = cc
take-further zero (x ∷ xs) (y ∷ ys) before here = let same : x ≡ y = cc in ap (λ z. z ∷ []) same
take-further (suc n) [] [] before here = refl
take-further (suc n) [] (y ∷ ys) before here = cc
take-further (suc n) (x ∷ xs) [] before here = cc
take-further (suc n) (x ∷ xs) (y ∷ ys) before here =
    let same : x ≡ y = cc in
    let rest : take n xs ≡ take n ys = cc in
    ap₂ (λ z zs. z ∷ zs) same (take-further n xs ys rest here)

-- the element at an index is the first of what is left
get-nil : {X : Type 0} (n : ℕ) (xs : List X) → drop n xs ≡ [] → slice_get xs n ≡ None
get-nil zero [] e = refl
get-nil zero (x ∷ xs) e = cc
get-nil (suc n) [] e = refl
get-nil (suc n) (x ∷ xs) e = get-nil n xs e

get-first : {X : Type 0} (n : ℕ) (xs : List X) (y : X) (ys : List X) → drop n xs ≡ y ∷ ys → (slice_get xs n ≡ Some y) × (drop (suc n) xs ≡ ys)
get-first zero [] y ys e = cc
get-first zero (x ∷ xs) y ys e = let same : x ≡ y = cc in let rest : xs ≡ ys = cc in (ap Some same, rest)
get-first (suc n) [] y ys e = cc
get-first (suc n) (x ∷ xs) y ys e = get-first n xs y ys e

drop-further : {X : Type 0} (n : ℕ) (xs : List X) → drop n xs ≡ [] → drop (suc n) xs ≡ []
drop-further zero [] e = refl
drop-further zero (x ∷ xs) e = cc
drop-further (suc n) [] e = refl
drop-further (suc n) (x ∷ xs) e = drop-further n xs e

cut-get : (n : ℕ) (lines : List (List ℕ)) (left line rest : Option (List ℕ)) → drop n lines ≡ lines_left left → CutsLine left line rest
    → (slice_get lines n ≡ line) × (drop (suc n) lines ≡ lines_left rest)
cut-get n lines left None rest e cut = (get-nil n lines (e ∙ cut.0), drop-further n lines (e ∙ cut.0) ∙ sym cut.1)
cut-get n lines left (Some line) rest e cut = get-first n lines line (lines_left rest) (e ∙ cut)

get-none : {X : Type 0} (n : ℕ) (xs : List X) → slice_get xs n ≡ None → drop n xs ≡ []
get-none zero [] e = refl
get-none zero (x ∷ xs) e = cc
get-none (suc n) [] e = refl
get-none (suc n) (x ∷ xs) e = get-none n xs e

index-le : (n : ℕ) (bytes : List ℕ) (line : Option (Bor (List ℕ))) → slice_get (lines_of bytes) n ≡ option_copied line → is_some line ≡ true → n ≤ length bytes
index-le n bytes None found some = cc
index-le n bytes (Some line) found some =
    let p = λ (b : ℕ). b == 10 in
    omega (arith, slice_get_within (lines_of bytes) n line.now found, length-slice_split p bytes, count_by-le-length p bytes)

pub copied-none : (line : Option (Bor (List ℕ))) → is_some line ≡ false → option_copied line ≡ None
copied-none None e = refl
copied-none (Some line) e = cc

module _ (n : ℕ) (bytes : List ℕ) (left line rest : Option (Bor (List ℕ))) (at : drop n (lines_of bytes) ≡ lines_left (option_copied left))
    (cut : CutsLine (option_copied left) (option_copied line) (option_copied rest)) where
  -- a line that is cut off what is left is the line at this index
  pub line_is : slice_get (lines_of bytes) n ≡ option_copied line
  line_is = (cut-get n (lines_of bytes) (option_copied left) (option_copied line) (option_copied rest) at cut).0

  -- the lines after it are left
  pub rest_is : drop (suc n) (lines_of bytes) ≡ lines_left (option_copied rest)
  rest_is = (cut-get n (lines_of bytes) (option_copied left) (option_copied line) (option_copied rest) at cut).1

  -- where no line is cut off, none is left
  pub none_left : option_copied line ≡ None → drop n (lines_of bytes) ≡ []
  none_left none = get-none n (lines_of bytes) (line_is ∙ none)

  -- there are fewer line feeds than lines, so a line's index is at most the number of bytes
  pub index_within : is_some line ≡ true → n ≤ length bytes
  index_within some = index-le n bytes line line_is some

-- lists that agree up to where both end are equal
pub same-whole : {X : Type 0} (n : ℕ) (xs ys : List X) → take n xs ≡ take n ys → drop n xs ≡ [] → drop n ys ≡ [] → xs ≡ ys
same-whole n xs ys same xs_end ys_end =
    sym (take-append-drop n xs) ∙ ap₂ (λ front back. front ++ back) same (xs_end ∙ sym ys_end) ∙ take-append-drop n ys

-- std's comparison of two lines, of which each may be missing
abbrev line_eq : Option (Bor (List ℕ)) → Option (Bor (List ℕ)) → Bool
line_eq a b = option_eq (λ x y. bytes_eq x.now y.now) a b

line_eq-Decides : (a b : Option (Bor (List ℕ))) → Decides (line_eq a b) (option_copied a ≡ option_copied b)
line_eq-Decides None None = (λ e. refl, λ e. refl)
line_eq-Decides None (Some y) = (λ e. cc, λ e. cc)
line_eq-Decides (Some x) None = (λ e. cc, λ e. cc)
line_eq-Decides (Some x) (Some y) =
    let same = bytes_eq-Decides x.now y.now in
    (λ e. ap Some (same.0 e), λ e. let now : x.now ≡ y.now = cc in same.1 now)

module _ (a b : Option (Bor (List ℕ))) (differ : Bool) (compared : differ ≡ not (line_eq a b)) where
  -- lines that are found equal are equal
  pub lines_same : differ ≡ false → option_copied a ≡ option_copied b
  lines_same e = (line_eq-Decides a b).0 (not-false (line_eq a b) (sym compared ∙ e))

  -- lines that are found to differ do
  pub lines_differ : differ ≡ true → option_copied a ≢ option_copied b
  lines_differ e = λ same. let found : differ ≡ false = compared ∙ not_from_true (line_eq a b) ((line_eq-Decides a b).1 same) in cc
