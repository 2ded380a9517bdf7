-- A line at any depth is cut from one at the greatest depth.
use Rattle.std.proofs.Common.{◌≡◌, ◌∙◌, refl, ap, ℕ, zero, suc, ◌+◌, ◌*◌, ◌≤◌, ◌<◌, List, [], All, ◌∷◌, ◌++◌, length, take, arith}
use Rattle.std.specs.Str.{IsAscii}
use Rattle.std.proofs.Math.Seq.{take-append-add}
use Rattle.std.proofs.lemmas.Str.Ascii.{IsAscii-cons, IsAscii-nil}
use Rattle.ufmt_core.specs.Layout.{indentation}

take_indentation : (m n : ℕ) → m ≤ n → take (4 * m) (indentation n) ≡ indentation m
take_indentation zero n few = refl
take_indentation (suc m) zero few = absurd (omega arith)
take_indentation (suc m) (suc n) few =
    let four : 4 * suc m ≡ suc (suc (suc (suc (4 * m)))) = omega arith in rw (four, take_indentation m n (omega arith))

pub cut_is : (front : List ℕ) (depth : ℕ) → depth ≤ 255 → take (length front + 4 * depth) (front ++ indentation 255) ≡ front ++ indentation depth
cut_is front depth few = take-append-add front (indentation 255) (4 * depth) ∙ ap (λ t. front ++ t) (take_indentation depth 255 few)

pub line_ascii : (front : List ℕ) (n : ℕ) → All (λ c. c < 128) front → IsAscii (front ++ indentation n)
line_ascii [] zero ascii = IsAscii-nil
line_ascii [] (suc n) ascii = search (arith, IsAscii-cons, line_ascii [] n ascii) depth 9
line_ascii (c ∷ front) n ascii =
    IsAscii-cons c (front ++ indentation n) (ascii 0 0 (omega arith)) (line_ascii front n (λ k d within. ascii (suc k) d (omega arith)))
