-- The status and the line of each fault, and the faults of devices and of memory.
use Rattle.std.specs.Prelude.{ℕ, List, codes}
use Rattle.ufmt_conv.specs.declared.run.fault.Fault.{Fault}
use Rattle.ufmt_conv.specs.declared.run.fault.Fault.TheVariants.{NotPlain, NotPretty, CannotRead, CannotWrite, OutOfMemory}
use Rattle.ufmt_io.specs.declared.fault.IoFault.{IoFault}
use Rattle.ufmt_io.specs.declared.fault.IoFault.TheVariants.{CannotRead as ReadFailed, CannotWrite as WriteFailed, OutOfMemory as MemoryRefused}

abbrev pub status_of : Fault → ℕ
status_of NotPlain = 1
status_of NotPretty = 1
status_of CannotRead = 3
status_of CannotWrite = 4
status_of OutOfMemory = 5

abbrev pub line_of : Fault → List ℕ
line_of NotPlain = codes "ufmt_conv: not a plain text"
line_of NotPretty = codes "ufmt_conv: not a pretty text"
line_of CannotRead = codes "ufmt_conv: cannot read"
line_of CannotWrite = codes "ufmt_conv: cannot write"
line_of OutOfMemory = codes "ufmt_conv: out of memory"

-- the fault of this program for one of a device or of memory
abbrev pub of_io : IoFault → Fault
of_io ReadFailed = CannotRead
of_io WriteFailed = CannotWrite
of_io MemoryRefused = OutOfMemory
