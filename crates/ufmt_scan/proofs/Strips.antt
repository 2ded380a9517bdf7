-- Texts stripped from slices.
use Rattle.std.proofs.Common.{◌≡◌, ◌≢◌, refl, sym, ap, ℕ, suc, ◌-◌, ◌≤◌, List, ◌++◌, Option, Some, None, codes, Bor, MatchOption, arith}
use Rattle.ufmt_core.specs.Layout.{if_any, indentation, next}
use Rattle.ufmt_core.specs.declared.layout.Count.{Count}
use Rattle.ufmt_core.specs.declared.layout.Count.TheVariants.{Zero, One, Several}
use Rattle.ufmt_grammar.specs.Reading.{strip}
use Rattle.ufmt_grammar.proofs.Parsing.{strip_of_front, strip_of_none}
pub use Rattle.ufmt_grammar.proofs.Parsing.{strip-append}
use Rattle.ufmt_scan.specs.Rest.{now_of}

-- a function strips a text if it returns what follows the text, or else `None`
pub stripped : (text t : List ℕ) (r : Option (Bor (List ℕ)))
    → MatchOption r ((rest : List ℕ) → t ≢ text ++ rest) (λ x. t ≡ text ++ x.now) → now_of r ≡ strip text t
stripped text t None h = sym (strip_of_none text t h)
stripped text t (Some x) h = sym (strip_of_front text t x.now h)

pub indentation_more : (n : ℕ) → 2 ≤ n → indentation n ≡ codes "        " ++ indentation (n - 2)
indentation_more n h = let two_more : n ≡ suc (suc (n - 2)) = omega arith in ap indentation two_more

pub if_any-next : (count : Count) (text : List ℕ) → if_any (next count) text ≡ text
if_any-next Zero text = refl
if_any-next One text = refl
if_any-next Several text = refl

-- what the proofs of stripping functions cite
pub ruleset stripping = (strip-append, indentation_more, if_any-next)
