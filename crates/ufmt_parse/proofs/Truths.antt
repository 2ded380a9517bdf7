-- The documents of truth values are leaves.
use Rattle.std.proofs.Common.{refl, ℕ, ◌≤◌, codes, Bool, true, false, List, arith}
use Rattle.std.specs.Prelude.{if◌then◌else◌}
use Rattle.ufmt.specs.Document.{leaf}
use Rattle.ufmt_parser.specs.Taking.{Fits}
use Rattle.ufmt_parser.proofs.Words.{word_is_leaf}

abbrev pub truth_text : Bool → List ℕ
truth_text v = if v then codes "true" else codes "false"

pub truth_fits : (blocks : ℕ) → blocks ≤ 255 → (v : Bool) → Fits blocks (leaf (truth_text v))
truth_fits blocks most true = (word_is_leaf (codes "true") (refl, (refl, (refl, (refl, tt)))), omega arith)
truth_fits blocks most false = (word_is_leaf (codes "false") (refl, (refl, (refl, (refl, (refl, tt))))), omega arith)
