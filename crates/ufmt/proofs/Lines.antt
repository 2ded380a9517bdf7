-- What lines of pieces print in a row, and what a loop over items has left to print.
use Rattle.std.proofs.Common.{◌≡◌, List, [], ◌∷◌, ◌++◌, ℕ, ◌+◌, ◌<◌, ◌≤◌, Bool, true, false, refl, ap, sym, ◌∙◌, append_assoc, map, drop, length, get_or}
use Rattle.std.proofs.lemmas.List.{drop_more}
use Rattle.std.proofs.Math.ListN.{drop_of_length-le}
use Rattle.ufmt.proofs.PiecesInARow.{Prints-nothing}
use Rattle.ufmt_core.specs.declared.layout.Setting.{Setting}
use Rattle.ufmt_core.specs.declared.formatter.Formatter.{Formatter}
use Rattle.ufmt_core.specs.Writes.{Seen}
use Rattle.ufmt_core.specs.Formatter.{Prints, setting_of}
use Rattle.ufmt_core.proofs.Writing.{Prints-fails, Prints-same, Prints-then_at}
use Rattle.ufmt.specs.Pieces.{Piece, piece_text, pieces_text, preceded, text}

pieces_text-append : (s : Setting) (ps qs : List Piece) → pieces_text s (ps ++ qs) ≡ pieces_text s ps ++ pieces_text s qs
pieces_text-append s [] qs = refl
pieces_text-append s (p ∷ ps) qs = ap (λ t. piece_text s p ++ t) (pieces_text-append s ps qs)
    ∙ sym (append_assoc (piece_text s p) (pieces_text s ps) (pieces_text s qs))

module _ {W : Type 0} {seen : Seen W} where
  -- two lines in a row print the pieces of both
  pub Prints-both : {f mid new : Formatter W} {ok : Bool} (ps qs : List Piece) → Prints seen f (pieces_text (setting_of f) ps) true mid
      → Prints seen mid (pieces_text (setting_of mid) qs) ok new →
      Prints seen f (pieces_text (setting_of f) (ps ++ qs)) ok new
  Prints-both {f} ps qs a b = Prints-same (sym (pieces_text-append (setting_of f) ps qs)) (Prints-then_at (λ s. pieces_text s qs) a b)

  -- if the first of two lines fails, both fail
  pub Prints-first_fails : {f new : Formatter W} (ps qs : List Piece) → Prints seen f (pieces_text (setting_of f) ps) false new
      → Prints seen f (pieces_text (setting_of f) (ps ++ qs)) false new
  Prints-first_fails {f} ps qs a = Prints-same (sym (pieces_text-append (setting_of f) ps qs)) (Prints-fails (pieces_text (setting_of f) qs) a)

module _ {W : Type 0} where
  -- once the pieces `left` are written, the `whole` line is written
  pub record Leaves (seen : Seen W) (start : Formatter W) (whole : List Piece) (f : Formatter W) (left : List Piece) : Type 0 where
    pub completes : (ok : Bool) (last : Formatter W) → Prints seen f (pieces_text (setting_of f) left) ok last
        → Prints seen start (pieces_text (setting_of start) whole) ok last

-- a loop writes each item after the text `between`, and has come to the k-th item, `x`
module _ {W X : Type 0} {seen : Seen W} {start f : Formatter W} {whole : List Piece} (between : List ℕ) (h : X → List Piece) (xs : List X)
    (k : ℕ) (x : X) (within : k < length xs) (is : x ≡ get_or xs k x)
    (leaves : Leaves seen start whole f (preceded between (map h (drop k xs)))) where
  here : drop k xs ≡ x ∷ drop (k + 1) xs
  here = drop_more xs k x within ∙ ap (λ y. y ∷ drop (k + 1) xs) (sym is)

  after : {ok : Bool} {last : Formatter W} → Prints seen f
      (pieces_text (setting_of f) (text between ∷ (h x ++ preceded between (map h (drop (k + 1) xs))))) ok last
      → Prints seen start (pieces_text (setting_of start) whole) ok last
  after {ok} {last} p = leaves.completes ok last (rw here p)

  pub text_fails : {last : Formatter W} → Prints seen f between false last → Prints seen start (pieces_text (setting_of start) whole) false last
  text_fails p = after (Prints-fails _ p)

  pub item_fails : {mid last : Formatter W} → Prints seen f between true mid
      → Prints seen mid (pieces_text (setting_of mid) (h x)) false last → Prints seen start (pieces_text (setting_of start) whole) false last
  item_fails a b = after (Prints-then_at (λ s. pieces_text s (h x ++ preceded between (map h (drop (k + 1) xs)))) a (Prints-first_fails (h x) _ b))

  -- after the text and the item, the loop has the other items left
  pub Leaves-next : {mid new : Formatter W} → Prints seen f between true mid → Prints seen mid (pieces_text (setting_of mid) (h x)) true new
      → Leaves seen start whole new (preceded between (map h (drop (k + 1) xs)))
  Leaves-next a b = record {
    completes = λ ok last p. after
        (Prints-then_at (λ s. pieces_text s (h x ++ preceded between (map h (drop (k + 1) xs)))) a (Prints-both (h x) _ b p));
  }

-- a loop with no items left has written the line
pub Leaves-none : {W X : Type 0} {seen : Seen W} {start f : Formatter W} {whole : List Piece} (between : List ℕ) (h : X → List Piece)
    (xs : List X) (k : ℕ) → length xs ≤ k →
    Leaves seen start whole f (preceded between (map h (drop k xs))) → Prints seen start (pieces_text (setting_of start) whole) true f
Leaves-none {seen = seen} {start} {f} {whole} between h xs k past leaves = leaves.completes true f (rw (drop_of_length-le xs past) (Prints-nothing f))
