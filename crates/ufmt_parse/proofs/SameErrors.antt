-- A result that fails with an error, and another one that fails with it.
use Rattle.std.specs.Prelude.{Result, Ok, Err, IsErrOf}
use Rattle.std.proofs.Common.{ap}

-- a result of another type that fails with the error, or with `other`
as_failed : {T U E : Type 0} → E → Result T E → Result U E
as_failed other (Ok value) = Err other
as_failed other (Err error) = Err error

-- the error is the same, whatever the type of the values
pub same_error : {T U E : Type 0} (fault error : E) → IsErrOf {T = T} {E = E} (Err fault) error → IsErrOf {T = U} {E = E} (Err fault) error
unfolding as_failed
same_error fault error is = ap (as_failed fault) is
