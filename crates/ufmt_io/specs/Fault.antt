-- The status of each fault of a device or of memory.
use Rattle.std.specs.Prelude.{ℕ}
use Rattle.ufmt_io.specs.declared.fault.IoFault.{IoFault}
use Rattle.ufmt_io.specs.declared.fault.IoFault.TheVariants.{CannotRead, CannotWrite, OutOfMemory}

abbrev pub status_of : IoFault → ℕ
status_of CannotRead = 3
status_of CannotWrite = 4
status_of OutOfMemory = 5
