-- Pieces in a row print one after the other, all at the same mode and depth.
use Rattle.std.proofs.Common.{◌≡◌, List, [], ◌++◌, ℕ, Bool, true, refl, append-nil, subst}
use Rattle.ufmt_core.specs.declared.layout.Setting.{Setting}
use Rattle.ufmt_core.specs.declared.formatter.Formatter.{Formatter}
use Rattle.ufmt_core.specs.Document.{Document, pretty_part}
use Rattle.ufmt_core.specs.Writes.{Seen}
pub use Rattle.ufmt_core.proofs.Writing.{Prints-err, Prints-fails, Prints-same, Prints-then, Prints-then_at}
use Rattle.ufmt_core.proofs.Writing.{Writes-nothing}
use Rattle.ufmt_core.specs.Layout.{layout}
use Rattle.ufmt_core.specs.Formatter.{LaysOut, Prints, at_setting, in_pretty_mode, lays_out, prints_layout, setting_of}

module _ {W : Type 0} {seen : Seen W} where
  -- laying out a document at mode and depth `s` prints its text
  pub Prints-shown : {f new : Formatter W} {d : Document} {ok : Bool} (s : Setting) → setting_of f ≡ s → LaysOut seen f d ok new
      → Prints seen f (layout s d) ok new
  Prints-shown {f} {new} {d} {ok} s e l = subst (λ (at : Setting). Prints seen f (layout at d) ok new) e (prints_layout l)

  -- a document that was laid out in pretty mode, with mode and depth then as before
  pub laid_out_in_pretty : {old last new : Formatter W} {d : Document} {ok : Bool} → LaysOut seen (in_pretty_mode old) d ok last
      → new ≡ at_setting last (setting_of old) → LaysOut seen old (pretty_part d) ok new
  laid_out_in_pretty l is = rw is (lays_out (record { wrote = (prints_layout l).wrote; same_setting = refl }))

  pub Prints-nothing : (f : Formatter W) → Prints seen f [] true f
  Prints-nothing f = record { wrote = Writes-nothing f.writer; same_setting = refl }

  -- nothing follows the last piece
  pub Prints-last : {f new : Formatter W} {text : List ℕ} {ok : Bool} → Prints seen f text ok new → Prints seen f (text ++ []) ok new
  Prints-last {f} {new} {text} {ok} p = rw (append-nil text) p
