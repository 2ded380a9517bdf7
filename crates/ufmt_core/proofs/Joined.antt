-- Documents in a row are laid out one after the other.
use Rattle.std.proofs.Common.{[], ◌∷◌, ◌++◌, Bool, true, false, append-nil, refl, sym}
use Rattle.ufmt_core.specs.Document.{Document, documents, joined, leaf}
use Rattle.ufmt_core.specs.Layout.{layout}
use Rattle.ufmt_core.specs.Writes.{Seen}
use Rattle.ufmt_core.specs.Formatter.{Formatter, LaysOut, lays_out, prints_layout, writer_of}
use Rattle.ufmt_core.proofs.Writing.{Prints-fails, Prints-same, Prints-then_at, Writes-nothing}

module _ {W : Type 0} {seen : Seen W} where
  -- the leaf of no text is laid out by no call
  pub LaysOut-nothing : (f : Formatter W) → LaysOut seen f (leaf []) true f
  LaysOut-nothing f = lays_out (record { wrote = Writes-nothing (writer_of f); same_setting = refl })

  -- a document and then another
  pub LaysOut-then : {old mid new : Formatter W} {d e : Document} {ok : Bool} → LaysOut seen old d true mid → LaysOut seen mid e ok new
      → LaysOut seen old (joined (documents (d ∷ e ∷ []))) ok new
  LaysOut-then {e = e} a b =
      lays_out (Prints-then_at (λ s. layout s e ++ []) (prints_layout a) (Prints-same (sym (append-nil _)) (prints_layout b)))

  -- a call that fails in a document fails in the two
  pub LaysOut-stops : {old new : Formatter W} {d : Document} (e : Document) → LaysOut seen old d false new
      → LaysOut seen old (joined (documents (d ∷ e ∷ []))) false new
  LaysOut-stops e a = lays_out (Prints-fails _ (prints_layout a))
