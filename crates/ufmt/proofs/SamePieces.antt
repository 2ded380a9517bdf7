-- Lines whose pieces have the same texts one by one have the same text.
use Rattle.std.proofs.Common.{◌≡◌, refl, ap, ◌∙◌, List, [], ◌∷◌, ◌++◌}
use Rattle.ufmt_core.specs.declared.layout.Mode.TheVariants.{Plain}
use Rattle.ufmt_core.specs.Layout.{setting}
use Rattle.ufmt.specs.Pieces.{Piece, SamePieces, line_text, piece_text, pieces_text}

same_texts : (qs ps : List Piece) → SamePieces qs ps → pieces_text (setting Plain 0) qs ≡ pieces_text (setting Plain 0) ps
same_texts [] [] same = refl
same_texts [] (p ∷ ps) same = absurd same
same_texts (q ∷ qs) [] same = absurd same
same_texts (q ∷ qs) (p ∷ ps) same =
    ap (λ bytes. bytes ++ pieces_text (setting Plain 0) qs) same.0 ∙ ap (λ rest. piece_text (setting Plain 0) p ++ rest) (same_texts qs ps same.1)

pub one_line : (qs ps : List Piece) → SamePieces qs ps → line_text qs ≡ line_text ps
unfolding line_text
one_line qs ps same = same_texts qs ps same
