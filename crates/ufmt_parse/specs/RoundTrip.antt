-- What was printed to a buffer, of a value that is parsed from there.
use Rattle.std.specs.Prelude.{ℕ, List, length, Option, None, Result, Ok, Err}
use Rattle.ufmt_core.specs.declared.cursor.Full.{Full}

-- the text wasn't printed whole if the outcome is `None`; else it was, also if parsing failed
abbrev pub printed : {T E : Type 0} → List ℕ → Result (Option T) E → Result ℕ Full
printed text (Ok None) = Err (record {})
printed text _ = Ok (length text)
