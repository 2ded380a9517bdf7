use Rattle.std.proofs.Common.{◌≡◌, ◌∙◌, refl, ap, sym, append-nil, ℕ, zero, suc, ◌+◌, ◌++◌, codes, min, arith}
use Rattle.ufmt_core.specs.Layout.{indentation}
use Rattle.ufmt_scan.proofs.scan.step.between.Goals as goal

-- an indent may as well be added at the end
indentation_last : (k : ℕ) → indentation k ++ codes "    " ≡ indentation (suc k)
indentation_last zero = refl
indentation_last (suc k) = ap (λ t. codes "    " ++ t) (indentation_last k)

pub returns-in-Plain : goal.returns-in-Plain
returns-in-Plain c = λ k few. rw c.in-Plain.is (sym (append-nil c.later_lead.result.now) ∙ c.later_lead.ensures k)

pub returns-in-Pretty : goal.returns-in-Pretty
returns-in-Pretty c = λ k few. let deeper : min (k + 1) 255 ≡ suc k = grind arith in rw (c.in-Pretty.is, deeper) (indentation_last k)
