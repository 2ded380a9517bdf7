-- A reader's error: its code, and how it comes from a scan's error.
use Rattle.std.specs.Prelude.{ℕ}
use Rattle.ufmt_scan.specs.declared.error.ReadError.{ReadError}
pub use Rattle.ufmt_scan.specs.declared.error.ReadError.TheVariants.{NotText, OutOfMemory}
use Rattle.ufmt_scan.specs.Scan.{ScanError}
use Rattle.ufmt_scan.specs.declared.scan.event.ScanError.TheVariants as errors

abbrev pub code_of : ReadError → ℕ
code_of NotText = 1
code_of OutOfMemory = 2

-- the error of a reader or a conversion, by the error of its scan
abbrev pub error_of : {E : Type 0} → ScanError E → ReadError
error_of errors.NotText = NotText
error_of (errors.Sink e) = OutOfMemory
