-- Exactly the texts of documents of a class are read as a whole.
use Rattle.std.proofs.Common.{◌≡◌, refl, ap, sym, ◌∙◌, ℕ, List, [], ◌∷◌, append-nil, Some, arith}
use Rattle.ufmt_core.specs.Document.{Document}
use Rattle.ufmt_core.specs.Layout.{setting, layout}
use Rattle.ufmt_core.specs.declared.layout.Mode.{Mode}
use Rattle.ufmt_core.specs.declared.layout.Mode.TheVariants.{Plain, Pretty}
use Rattle.ufmt_grammar.specs.Token.{Class, IsDocument, normal}
use Rattle.ufmt_grammar.specs.Reading.{if_all, read, read_text}
use Rattle.ufmt_grammar.specs.ReadingLaws.{ReadsOnlyTexts, ReadsEachText, RefusesOnlyUnprinted}
use Rattle.ufmt_grammar.proofs.Parsing.{led_from}
use Rattle.ufmt_grammar.proofs.ClassLeaves.{nothing_follows}
use Rattle.ufmt_grammar.proofs.FramesClose.{Fits}
use Rattle.ufmt_grammar.proofs.ReadingComplete.{read_complete}
use Rattle.ufmt_grammar.proofs.ReadingSound.{read_sound, Found}

fits_at_0 : (mode : Mode) → Fits (setting mode 0) 255
fits_at_0 Plain = tt
fits_at_0 Pretty = omega arith

module _ (class : Class) where
  -- a document that is found, with nothing left, is one of the class in normal form with this text
  all_found : (mode : Mode) (t : List ℕ) (e d : Document) (u : List ℕ) → Found class (setting mode 0) 255 t e u → if_all e u ≡ Some d → IsDocument class d
      × (normal d ≡ d) × (layout (setting mode 0) d ≡ t)
  all_found mode t e d [] found h =
      let same : e ≡ d = cc in
      rw (← same) ((found.tokens, found.nests), found.is_normal, sym (found.whole ∙ append-nil (layout (setting mode 0) e)))
  all_found mode t e d (c ∷ u) found h = absurd (cc)

  pub reads_only_texts : ReadsOnlyTexts class
  reads_only_texts = λ mode t d h.
      let parsed = led_from _ (read class (setting mode 0) 255 t) d h in
      all_found mode t parsed.0.0 d parsed.0.1 (read_sound class 255 (setting mode 0) t parsed.0.0 parsed.0.1 parsed.1) parsed.2

  each_text : (mode : Mode) (d : Document) → IsDocument class d → read_text class mode (layout (setting mode 0) d) ≡ Some (normal d)
  each_text mode d h =
      let parsed : read class (setting mode 0) 255 (layout (setting mode 0) d) ≡ Some (normal d, []) = ap (read class (setting mode 0) 255) (sym (append-nil (layout (setting mode 0) d))) ∙ read_complete class 255 (setting mode 0) d [] h.0 h.1 (fits_at_0 mode) (nothing_follows class) in
      rw parsed refl

  pub reads_each_text : ReadsEachText class
  reads_each_text = each_text

  pub refuses_only_unprinted : RefusesOnlyUnprinted class
  refuses_only_unprinted = λ mode t h d token same. let reads = each_text mode d token ∙ refl in let other = ap (read_text class mode) same in absurd (cc)
