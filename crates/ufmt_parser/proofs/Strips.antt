-- What was stripped from a text, and what was not.
use Rattle.std.proofs.Common.{◌≡◌, ◌≢◌, sym, ap, ◌∙◌, List, ℕ, ◌<◌, ◌≤◌, ◌++◌, arith, length, length-append, Option, Some, None, Bor}
use Rattle.ufmt_grammar.specs.Reading.{strip}
use Rattle.ufmt_grammar.proofs.Parsing.{strip_found, strip_of_front, strip_of_none}
use Rattle.ufmt_parser.specs.Taking.{DoesNotBegin}
use Rattle.ufmt_scan.specs.Rest.{now_of}

-- what is stripped was at the front
pub was_there : (text t : List ℕ) (r : Option (Bor (List ℕ))) (x : Bor (List ℕ)) → now_of r ≡ strip text t → r ≡ Some x → t ≡ text ++ x.now
was_there text t r x strips is = strip_found text t x.now (sym strips ∙ ap now_of is)

-- less is left
pub shorter : (text t : List ℕ) (r : Option (Bor (List ℕ))) (x : Bor (List ℕ)) → now_of r ≡ strip text t → r ≡ Some x → length x.now ≤ length t
shorter text t r x strips is = omega (arith, length-append text x.now, ap length (was_there text t r x strips is))

none_some : (u : List ℕ) → None ≢ Some u
none_some u e = absurd (cc)

-- what isn't stripped wasn't there
pub was_not_there : (text t : List ℕ) (r : Option (Bor (List ℕ))) → now_of r ≡ strip text t → r ≡ None → DoesNotBegin text t
was_not_there text t r strips is = λ u same. none_some u (sym (ap now_of is) ∙ strips ∙ strip_of_front text t u same)

-- a piece isn't in a text that is shorter
pub short_text : (text t : List ℕ) → length t < length text → strip text t ≡ None
short_text text t short = strip_of_none text t (λ u same. omega (arith, ap length same, length-append text u))
