use Rattle.std.proofs.Common.{◌≡◌, ◌++◌, ◌∷◌, [], ℕ, List, length}
use Rattle.ufmt.specs.Quoted.{escaped_bytes}
use Rattle.ufmt_doc.proofs.doc.decoded_bytes.Given as goal

abbrev pub invariant-bytes : goal.invariant-bytes
invariant-bytes l = (bs : List ℕ) → l.inside ≡ escaped_bytes l.quote bs ++ l.quote ∷ []
    → (more : List ℕ) × (bs ≡ l.bytes.items ++ more) × (l.rest ≡ escaped_bytes l.quote more ++ l.quote ∷ [])

abbrev pub decreases-bytes : goal.decreases-bytes
decreases-bytes l = length l.rest
