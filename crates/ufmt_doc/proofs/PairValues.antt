-- A map's value, which is printed after its key.
use Rattle.std.proofs.Common.{◌≡◌, ◌∙◌, sym, subst, List, ℕ, Bool, true}
use Rattle.ufmt.specs.BuilderView.{BuilderView, IsInside, inner, inner_formatter}
use Rattle.ufmt.specs.Document.{Document}
use Rattle.ufmt.specs.Formatter.{LaysOut, Prints, prints_layout, setting_of}
use Rattle.ufmt.specs.Writes.{Seen}
use Rattle.ufmt_core.proofs.Blocks.{lent_to}
use Rattle.ufmt_core.specs.declared.formatter.Formatter.{Formatter}

-- the key's `fmt` left the mode and depth of the entries, so what is printed from there is printed from where the key ended
pub after_key : {W : Type 0} {seen : Seen W} (old : BuilderView W) {mid : BuilderView W} {begun ended f : Formatter W} {lead text : List ℕ} {key : Document} {ok : Bool} {status : _}
    → IsInside old → mid ≡ lent_to status old ended → Prints seen old.formatter lead true begun → LaysOut seen begun key ok ended
    → Prints seen (inner_formatter mid) text true f → Prints seen mid.formatter text true f
after_key old inside_b m p k c =
    let kept = subst (λ (b : BuilderView _). setting_of b.formatter ≡ inner b) (sym m) ((prints_layout k).same_setting ∙ p.same_setting ∙ inside_b) in
    record { wrote = c.wrote; same_setting = c.same_setting ∙ sym kept }
