use Rattle.std.proofs.Common.{◌≡◌, List, ℕ, Option, Some, None, IfSome, Result, Ok, Err, OnOk, IsOk, rules, string_bytes, subst, refl}
use Rattle.ufmt_conv.proofs.run.run.Goals as goal

-- what is the output for the bytes that were read is that for the input, as far as that is known
output_for_input : (IsOutputFor : List ℕ → List ℕ → Type 0) (Written : List ℕ → Type 0) (known : Option (List ℕ)) (text line : List ℕ)
    → IfSome known (λ bytes. text ≡ bytes)
    → IsOutputFor text line → Written line → IfSome known (λ bytes. (x : List ℕ) × IsOutputFor bytes x × Written x)
output_for_input IsOutputFor Written None text line same is_output written = tt
output_for_input IsOutputFor Written (Some bytes) text line same is_output written = (line, subst (λ t. IsOutputFor t line) same is_output, written)

-- what holds where an outcome is `Ok`
on_ok : {A E : Type 0} (outcome : Result A E) (P : Type 0) → (IsOk outcome → P) → OnOk outcome P
on_ok (Ok a) P holds = holds refl
on_ok (Err e) P holds = tt

pub returns-clause-ok : goal.returns-clause-ok
returns-clause-ok g c = on_ok c.map_err.result _ (λ worked.
    output_for_input _ _ _ _ (string_bytes c.in_ok-line.line) c.in_ok-text.ensures.ok (search rules) (search rules))

pub returns-clause-partly_written : goal.returns-clause-partly_written
returns-clause-partly_written g c = λ failed.
    output_for_input _ _ _ _ (string_bytes c.in_ok-line.line) c.in_ok-text.ensures.ok (search rules) (search rules)
