-- The line of each fault, and the status of a run.
use Rattle.std.specs.Prelude.{ℕ, Bool, true, false, List, codes, Result, Ok, Err}
use Rattle.ufmt_io.specs.Fault.{status_of}
use Rattle.ufmt_io.specs.declared.fault.IoFault.{IoFault}
use Rattle.ufmt_io.specs.declared.fault.IoFault.TheVariants.{CannotRead, CannotWrite, OutOfMemory}

-- what is said of a fault, before its reason
abbrev pub line_of : IoFault → List ℕ
line_of CannotRead = codes "ufmt_lines: cannot read"
line_of CannotWrite = codes "ufmt_lines: cannot write standard output"
line_of OutOfMemory = codes "ufmt_lines: out of memory"

-- the status of a run, where some inputs were missed, or none, and where nobody reads the output any more, or somebody may: 141 is that of a program that ends by the signal for a closed pipe
abbrev pub status_of_run : {T : Type 0} → Result T IoFault → Bool → Bool → ℕ
status_of_run (Ok _) false closed = 0
status_of_run (Ok _) true closed = status_of CannotRead
status_of_run (Err CannotWrite) missed true = 141
status_of_run (Err CannotWrite) missed false = status_of CannotWrite
status_of_run (Err CannotRead) missed closed = status_of CannotRead
status_of_run (Err OutOfMemory) missed closed = status_of OutOfMemory
