-- What a buffer shows of a text: texts that differ only past its end show the same.
use Rattle.std.proofs.Common.{◌≡◌, refl, sym, ap, ◌∙◌, ℕ, zero, suc, ◌*◌, ◌<◌, ◌≤◌, List, [], ◌∷◌, ◌++◌, length, take, replicate, append_assoc, length-append, arith}
use Rattle.std.proofs.Math.Nat.{suc-mul}
use Rattle.std.proofs.lemmas.List.{length-replicate, take-append-le, take-replicate}
use Rattle.std.specs.List.{repeat}

-- what follows a text is shown where the text ends
pub same_after : (room : ℕ) (text s t : List ℕ) → ((k : ℕ) → k ≤ room → take k s ≡ take k t) → take room (text ++ s) ≡ take room (text ++ t)
same_after room [] s t same = same room (omega arith)
same_after zero (byte ∷ text) s t same = refl
same_after (suc room) (byte ∷ text) s t same = ap (λ r. byte ∷ r) (same_after room text s t (λ k within. same k (omega arith)))

-- of more bytes than there is room for, only the first are shown
pub same_bytes : (room m n byte : ℕ) (s t : List ℕ) → room ≤ m → room ≤ n → take room (replicate m byte ++ s) ≡ take room (replicate n byte ++ t)
same_bytes room m n byte s t more_m more_n =
    take-append-le room (replicate m byte) s (omega (arith, length-replicate m byte)) ∙ take-replicate room m byte more_m
    ∙ sym (take-append-le room (replicate n byte) t (omega (arith, length-replicate n byte)) ∙ take-replicate room n byte more_n)

-- the same of pieces
pub same_pieces : (room m n : ℕ) (piece s t : List ℕ) → 0 < length piece → room ≤ m → room ≤ n → take room (repeat m piece ++ s) ≡ take room (repeat n piece ++ t)
same_pieces zero m n piece s t some more_m more_n = refl
same_pieces (suc room) zero n piece s t some more_m more_n = absurd (omega arith)
same_pieces (suc room) (suc m) zero piece s t some more_m more_n = absurd (omega arith)
same_pieces (suc room) (suc m) (suc n) [] s t some more_m more_n = absurd (omega arith)
same_pieces (suc room) (suc m) (suc n) (byte ∷ piece) s t some more_m more_n =
    let whole = byte ∷ piece in
    ap (λ r. byte ∷ r) (
    ap (take room) (append_assoc piece (repeat m whole) s)
    ∙ same_after room piece (repeat m whole ++ s) (repeat n whole ++ t) (λ k within. same_pieces k m n whole s t some (omega arith) (omega arith))
    ∙ sym (ap (take room) (append_assoc piece (repeat n whole) t))
    )

pub length-repeat : (n : ℕ) (piece : List ℕ) → length (repeat n piece) ≡ n * length piece
length-repeat zero piece = omega arith
length-repeat (suc n) piece = omega (arith, length-append piece (repeat n piece), length-repeat n piece, suc-mul n (length piece))
