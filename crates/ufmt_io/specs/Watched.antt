-- What contracts see of a watched reader or writer.
use Rattle.std.specs.Prelude.{◌≡◌, ℕ, ◌<◌, ◌⊎◌, List, [], ◌∷◌, ◌++◌, length, Bool, Option, Some, Ok, Err, is_some}
use Rattle.std.specs.Option.{option_or}
use Rattle.std_io.specs.IoError.{error_kind}
use Rattle.std_io.specs.declared.io.error.Error.{Error}
use Rattle.std_io.specs.declared.io.kind.ErrorKind.{ErrorKind}
use Rattle.std_io.specs.declared.io.kind.ErrorKind.TheVariants.{WriteZero}
use Rattle.ufmt_io.specs.declared.call.Call.{Call}
use Rattle.ufmt_io.specs.declared.call.Call.TheVariants.{Read, Write, Flush}
use Rattle.ufmt_io.specs.declared.watched.Watched.{Watched}

-- the reader or writer that is watched
abbrev pub device_of : {D : Type 0} → Watched D → D
device_of watched = watched.inner.device

-- the calls of it so far, each with what it returned
abbrev pub calls_of : {D : Type 0} → Watched D → List Call
calls_of watched = watched.inner.history.calls

-- the error of the first call that failed
abbrev pub first_failure : {D : Type 0} → Watched D → Option Error
first_failure watched = watched.failure

-- whether a call has failed
abbrev pub has_failed : {D : Type 0} → Watched D → Bool
has_failed watched = is_some (first_failure watched)

-- whether the caller gave up: a failure is then perhaps none of the reader or writer
abbrev pub has_given_up : {D : Type 0} → Watched D → Bool
has_given_up watched = watched.gave_up

-- this call was made, and no other
abbrev pub Calls : {D : Type 0} → Watched D → Watched D → Call → Type 0
Calls old new call = calls_of new ≡ calls_of old ++ call ∷ []

-- the error is kept, if it is the first
abbrev pub KeepsError : {D : Type 0} → Watched D → Watched D → Error → Type 0
KeepsError old new error = first_failure new ≡ option_or (first_failure old) (Some error)

-- an error of this kind is kept, if it is the first
abbrev pub KeepsKind : {D : Type 0} → Watched D → Watched D → ErrorKind → Type 0
KeepsKind old new kind = (error : Error) × (error_kind error ≡ kind) × KeepsError old new error

-- one read failed, and its error is kept
abbrev pub FailsToRead : {D : Type 0} → Watched D → Watched D → Type 0
FailsToRead old new = (error : Error) × Calls old new (Read (Err error)) × KeepsError old new error

-- one write failed, and its error is kept; or it took nothing of bytes that aren't empty
abbrev pub FailsToWrite : {D : Type 0} → Watched D → Watched D → List ℕ → Type 0
FailsToWrite old new bytes =
    ((error : Error) × Calls old new (Write (Err error)) × KeepsError old new error)
    ⊎ ((0 < length bytes) × Calls old new (Write (Ok 0)) × KeepsKind old new WriteZero)

-- one flush failed, and its error is kept
abbrev pub FailsToFlush : {D : Type 0} → Watched D → Watched D → Type 0
FailsToFlush old new = (error : Error) × Calls old new (Flush (Err error)) × KeepsError old new error
