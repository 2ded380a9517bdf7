-- What is known of results.
use Rattle.std.proofs.Common.{Result, Ok, Err, OnErr, OnOk, IsErrOf, subst}

-- two facts of a result that is `Ok` show a third
pub on_ok_both : {T E : Type 0} (result : Result T E) {P Q R : Type 0} → (P → Q → R) → OnOk result P → OnOk result Q → OnOk result R
on_ok_both (Ok x) show p q = show p q
on_ok_both (Err e) show p q = tt

-- what holds if a result is an error holds
pub holds_of_error : {T E : Type 0} (result : Result T E) (error : E) (P : Type 0) → IsErrOf result error → OnErr result P → P
holds_of_error result error P is holds = subst (λ r. OnErr r P) is holds
