-- How many characters a text has, and the parts of a text in a column, in the order in which they are written.
use Rattle.std.proofs.Common.{◌≡◌, ◌⊎◌, inl, inr, nat_lt, ℕ, zero, suc, ◌+◌, ◌-◌, ◌*◌, ◌/◌, ◌%◌, ◌<◌, ◌≤◌, min, true, false, Bool, List, [], ◌∷◌, ◌++◌, length, take, get_or, replicate, encode_utf8, refl, sym, ap, ◌∙◌, append-nil, append_assoc, zero-add, arith, if◌then◌else◌}
use borrow.Author.Tests.{ltb-true}
use lib.Utf8.{encode, next}
use Rattle.std.proofs.lemmas.Bool.Decides.{nat_tests}
use Rattle.std.proofs.lemmas.List.{take_more, replicate-append-replicate}
use Rattle.std.proofs.lemmas.Str.{encode_ascii}
use Rattle.std.specs.Fmt.{char_count, is_char_start}
use Rattle.std.specs.List.{repeat}
use Rattle.ufmt_core.proofs.Writing.{Prints-fails, Prints-same, Prints-then, Prints-then_at}
use Rattle.ufmt_core.specs.Bytes.{space}
use Rattle.ufmt_core.specs.Formatter.{Prints, setting_of, writer_of}
use Rattle.ufmt_core.specs.declared.layout.Setting.{Setting}
use Rattle.ufmt_core.specs.Writes.{Seen}
use Rattle.ufmt_core.specs.declared.formatter.Formatter.{Formatter}
use Rattle.ufmt.specs.Column.{ColumnsAreFilled, fills, fills_before, in_column, missing}
use Rattle.ufmt.proofs.PiecesInARow.{Prints-nothing}
use Rattle.ufmt.specs.Pieces.{Piece, column, pieces_text}
use Rattle.ufmt.specs.Private.Counting.{counter_seen, left_after}
use Rattle.ufmt.specs.declared.column.Align.{Align}
use Rattle.ufmt.specs.declared.column.Align.TheVariants.{Left, Center, Right}
use Rattle.ufmt.specs.declared.column.Column.{Column}
use Rattle.ufmt.specs.declared.column.counter.CharacterCounter.{CharacterCounter}

pub char_count-nil : char_count [] ≡ 0
unfolding char_count
char_count-nil = refl

-- two texts have the characters of both
pub char_count-append : (xs ys : List ℕ) → char_count (xs ++ ys) ≡ char_count xs + char_count ys
unfolding char_count
char_count-append [] ys = sym (zero-add (char_count ys))
char_count-append (b ∷ xs) ys = omega (arith, char_count-append xs ys)

char_count-byte : (b : ℕ) → char_count (b ∷ []) ≡ (if is_char_start b then 1 else 0) + 0
unfolding char_count
char_count-byte b = refl

-- one byte more has one character more if it begins one
pub char_count-more : (text : List ℕ) (i : ℕ) → i < length text
    → char_count (take (i + 1) text) ≡ char_count (take i text) + (if is_char_start (get_or text i 0) then 1 else 0)
char_count-more text i within = let b = get_or text i 0 in
    omega (arith, ap char_count (take_more text i 0 within), char_count-append (take i text) (b ∷ []), char_count-byte b)

repeat-add : {X : Type 0} (m n : ℕ) (xs : List X) → repeat (m + n) xs ≡ repeat m xs ++ repeat n xs
repeat-add zero n xs = ap (λ k. repeat k xs) (zero-add n)
repeat-add (suc m) n xs =
    let count : suc m + n ≡ suc (m + n) = omega arith in
    ap (λ k. repeat k xs) count ∙ ap (λ t. xs ++ t) (repeat-add m n xs) ∙ sym (append_assoc xs (repeat m xs) (repeat n xs))

-- one fill more
pub fills-more : (c : Column) (n : ℕ) → fills c (n + 1) ≡ fills c n ++ encode_utf8 c.fill
fills-more c n = repeat-add n 1 (encode_utf8 c.fill) ∙ ap (λ t. fills c n ++ t) (append-nil (encode_utf8 c.fill))

-- n fills are m fills, one more, and the remaining ones
pub fills-front : (c : Column) (m n : ℕ) → m + 1 ≤ n → fills c n ≡ (fills c m ++ encode_utf8 c.fill) ++ fills c (n - (m + 1))
fills-front c m n some =
    let count : n ≡ (m + 1) + (n - (m + 1)) = omega arith in
    ap (fills c) count ∙ repeat-add (m + 1) (n - (m + 1)) (encode_utf8 c.fill) ∙ ap (λ t. t ++ fills c (n - (m + 1))) (fills-more c m)

-- a fill of one byte
repeat-byte : (n b : ℕ) → repeat n (b ∷ []) ≡ replicate n b
repeat-byte zero b = refl
repeat-byte (suc n) b = ap (λ t. b ∷ t) (repeat-byte n b)

pub fills-spaces : (c : Column) (n : ℕ) → c.fill ≡ space → fills c n ≡ replicate n space
fills-spaces c n is = ap (λ fill. repeat n (encode_utf8 fill)) is ∙ ap (repeat n) (encode_ascii space (omega arith)) ∙ repeat-byte n space

-- a first byte begins a character, and the bytes after it don't
pub begins : (b : ℕ) → (b < 128) ⊎ (192 ≤ b) → is_char_start b ≡ true
begins b (inl low) = grind (arith, nat_tests)
begins b (inr high) = grind (arith, nat_tests)

follows : (bits : ℕ) → is_char_start (next bits) ≡ false
follows bits = grind (arith, nat_tests)

one_character : (c : ℕ) (one two three : Bool) → nat_lt c 128 ≡ one → nat_lt c 2048 ≡ two → nat_lt c 65536 ≡ three → char_count (encode c) ≡ 1
unfolding char_count encode
one_character c true two three is _ _ = rw (is, begins c (inl (ltb-true c 128 is))) refl
one_character c false true three is₁ is₂ _ = rw (is₁, is₂, begins (192 + c / 64) (inr (omega arith)), follows c) refl
one_character c false false true is₁ is₂ is₃ = rw (is₁, is₂, is₃, begins (224 + c / 4096) (inr (omega arith)), follows (c / 64), follows c) refl
one_character c false false false is₁ is₂ is₃ =
    rw (is₁, is₂, is₃, begins (240 + c / 262144) (inr (omega arith)), follows (c / 4096), follows (c / 64), follows c) refl

char_count-fills : (c : Column) (n : ℕ) → char_count (fills c n) ≡ n
char_count-fills c zero = char_count-nil
char_count-fills c (suc n) = omega (
  arith,
  char_count-append (encode_utf8 c.fill) (fills c n),
  one_character c.fill (nat_lt c.fill 128) (nat_lt c.fill 2048) (nat_lt c.fill 65536) refl refl refl,
  char_count-fills c n,
)

before_within : (align : Align) (count : ℕ) → fills_before align count ≤ count
before_within Left count = omega arith
before_within Center count = omega arith
before_within Right count = omega arith

pub columns_are_filled : ColumnsAreFilled
columns_are_filled column text =
    let count = missing column text in
    let before = fills_before column.align count in
    omega (
      arith,
      char_count-append (fills column before) (text ++ fills column (count - before)),
      char_count-append text (fills column (count - before)),
      char_count-fills column before,
      char_count-fills column (count - before),
      before_within column.align count,
    )

-- what a text in a column is short of a width: no more than the text, and than the column
pub missing-in_column : (c : Column) (text : List ℕ) (width : ℕ)
    → min (width - char_count text) (width - c.width) ≡ width - char_count (in_column c text ++ [])
missing-in_column c text width =
    omega (arith, columns_are_filled c text, char_count-append (in_column c text) [], char_count-nil)

-- 64 of a byte more
pub bytes-more : (byte m : ℕ) → replicate (64 * (m + 1)) byte ≡ replicate (64 * m) byte ++ replicate 64 byte
bytes-more byte m =
    let count : 64 * (m + 1) ≡ 64 * m + 64 = omega arith in
    ap (λ k. replicate k byte) count ∙ sym (replicate-append-replicate (64 * m) 64 byte)

-- n of a byte are m times 64, 64 more, and the remaining ones
pub bytes-front : (byte m n : ℕ) → m < n / 64
    → replicate n byte ≡ (replicate (64 * m) byte ++ replicate 64 byte) ++ replicate (n - 64 * (m + 1)) byte
bytes-front byte m n some =
    let count : n ≡ 64 * (m + 1) + (n - 64 * (m + 1)) = omega arith in
    ap (λ k. replicate k byte) count ∙ sym (replicate-append-replicate (64 * (m + 1)) (n - 64 * (m + 1)) byte)
    ∙ ap (λ t. t ++ replicate (n - 64 * (m + 1)) byte) (bytes-more byte m)

-- n of a byte are m times 64, and the remaining ones
pub bytes-rest : (byte m n : ℕ) → m ≡ n / 64 → replicate n byte ≡ replicate (64 * m) byte ++ replicate (n % 64) byte
bytes-rest byte m n is =
    let count : n ≡ 64 * m + n % 64 = omega arith in
    ap (λ k. replicate k byte) count ∙ sym (replicate-append-replicate (64 * m) (n % 64) byte)

-- the fills before and after the text, of so many in all
abbrev first_fills : Column → ℕ → List ℕ
first_fills c count = fills c (fills_before c.align count)

abbrev last_fills : Column → ℕ → List ℕ
last_fills c count = fills c (count - fills_before c.align count)

module _ {W : Type 0} {seen : Seen W} {f : Formatter W} (c : Column) (ps : List Piece) (count : ℕ)
    (is : count ≡ missing c (pieces_text (setting_of f) ps)) where
  -- the column's text is its three parts
  parts : {new : Formatter W} {ok : Bool}
      → Prints seen f (first_fills c count ++ (pieces_text (setting_of f) ps ++ last_fills c count)) ok new
      → Prints seen f (pieces_text (setting_of f) (column c ps ∷ [])) ok new
  parts p = Prints-same (ap (λ n. first_fills c n ++ (pieces_text (setting_of f) ps ++ last_fills c n)) is ∙ sym (append-nil _)) p

  pub fills_fail : {new : Formatter W} → Prints seen f (first_fills c count) false new
      → Prints seen f (pieces_text (setting_of f) (column c ps ∷ [])) false new
  fills_fail a = parts (Prints-fails _ a)

  pub pieces_fail : {mid new : Formatter W} → Prints seen f (first_fills c count) true mid
      → Prints seen mid (pieces_text (setting_of mid) ps) false new → Prints seen f (pieces_text (setting_of f) (column c ps ∷ [])) false new
  pieces_fail a b = parts (Prints-then_at (λ s. pieces_text s ps ++ last_fills c count) a (Prints-fails (last_fills c count) b))

  pub Prints-column : {mid next new : Formatter W} {ok : Bool} → Prints seen f (first_fills c count) true mid
      → Prints seen mid (pieces_text (setting_of mid) ps) true next → Prints seen next (last_fills c count) ok new
      → Prints seen f (pieces_text (setting_of f) (column c ps ∷ [])) ok new
  Prints-column a b d = parts (Prints-then_at (λ s. pieces_text s ps ++ last_fills c count) a (Prints-then b d))

-- at the left no fills come before the text
none_first : (c : Column) (count : ℕ) → c.align ≡ Left → [] ≡ first_fills c count
none_first c count left = sym (ap (λ (align : Align). fills c (fills_before align count)) left)

-- and all come after it
all_last : (c : Column) (count : ℕ) → c.align ≡ Left → fills c count ≡ last_fills c count
all_last c count left =
    let whole : count ≡ count - 0 = omega arith in
    ap (fills c) whole ∙ sym (ap (λ (align : Align). fills c (count - fills_before align count)) left)

module _ {W : Type 0} {seen : Seen W} {f : Formatter W} (c : Column) (ps : List Piece) (left : c.align ≡ Left) where
  pub left_fails : {new : Formatter W} → Prints seen f (pieces_text (setting_of f) ps) false new
      → Prints seen f (pieces_text (setting_of f) (column c ps ∷ [])) false new
  left_fails b =
      let count = missing c (pieces_text (setting_of f) ps) in
      pieces_fail c ps count refl (Prints-same (none_first c count left) (Prints-nothing f)) b

  -- the fills are counted where the pieces are written
  pub Prints-left : {mid new : Formatter W} {ok : Bool} (count : ℕ) → count ≡ missing c (pieces_text (setting_of mid) ps)
      → Prints seen f (pieces_text (setting_of f) ps) true mid → Prints seen mid (fills c count) ok new
      → Prints seen f (pieces_text (setting_of f) (column c ps ∷ [])) ok new
  Prints-left count is b d =
      let before : count ≡ missing c (pieces_text (setting_of f) ps) = is ∙ ap (λ (s : Setting). missing c (pieces_text s ps)) b.same_setting in
      Prints-column c ps count before (Prints-same (none_first c count left) (Prints-nothing f)) b (Prints-same (all_last c count left) d)

-- what a counter is short of its width, its text is
pub missing_counted : (text : List ℕ) (width : ℕ) (ok : Bool) {old new : Formatter CharacterCounter} {begun : CharacterCounter}
    → writer_of old ≡ begun → begun.width ≡ width → begun.written.bytes ≡ [] → Prints counter_seen old text ok new
    → left_after ok (writer_of new) ≡ width - char_count text
missing_counted text width true {old} {new} {begun} over wide nothing p =
    let kept : (writer_of new).width ≡ (writer_of old).width = cc (p.wrote.same_identity) in
    let begins : (writer_of old).width ≡ width = ap (λ (w : CharacterCounter). w.width) over ∙ wide in
    let empty : (writer_of old).written.bytes ≡ [] = ap (λ (w : CharacterCounter). w.written.bytes) over ∙ nothing in
    omega (
      arith,
      ap char_count (p.wrote.appended tt),
      ap char_count empty,
      char_count-nil,
      char_count-append (writer_of old).written.bytes text,
    )
missing_counted text width false {old} {new} {begun} over wide nothing p =
    let part = p.wrote.appended tt in
    let kept : (writer_of new).width ≡ (writer_of old).width = cc (p.wrote.same_identity) in
    let begins : (writer_of old).width ≡ width = ap (λ (w : CharacterCounter). w.width) over ∙ wide in
    let empty : (writer_of old).written.bytes ≡ [] = ap (λ (w : CharacterCounter). w.written.bytes) over ∙ nothing in
    omega (
      arith,
      p.wrote.has_failed refl,
      ap char_count part.2,
      ap char_count empty,
      char_count-nil,
      char_count-append (writer_of old).written.bytes part.0,
      ap char_count part.1.joined,
      char_count-append part.0 part.1.remainder,
    )
