use Rattle.ufmt_core.specs.Formatter.{lays_out}
use Rattle.ufmt_parse.proofs.detailed.WanteduDisplay.fmt.Goals as goal

pub returns-in-Name : goal.returns-in-Name
returns-in-Name g c = rw c.in-Name.is (lays_out c.print.ensures)

pub returns-in-Variant : goal.returns-in-Variant
returns-in-Variant g c = rw c.in-Variant.is (lays_out c.print-in-Variant.ensures)

pub returns-in-Truth : goal.returns-in-Truth
returns-in-Truth g c = rw c.in-Truth.is c.write_str.ensures.lays_out

pub returns-in-Field : goal.returns-in-Field
returns-in-Field g c = rw c.in-Field.is (lays_out c.print-in-Field.ensures)

pub returns-in-BeforeField : goal.returns-in-BeforeField
returns-in-BeforeField g c = rw c.in-BeforeField.is (lays_out c.print-in-BeforeField.ensures)

pub returns-in-NoField : goal.returns-in-NoField
returns-in-NoField g c = rw c.in-NoField.is c.write_str-in-NoField.ensures.lays_out

pub returns-in-Range : goal.returns-in-Range
returns-in-Range g c = rw c.in-Range.is (lays_out c.print-in-Range.ensures)

pub returns-in-NonZero : goal.returns-in-NonZero
returns-in-NonZero g c = rw c.in-NonZero.is c.write_str-in-NonZero.ensures.lays_out
