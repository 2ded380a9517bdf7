use Rattle.ufmt.specs.Dump.{bytes_per_group, bytes_per_row}
use Rattle.ufmt.proofs.DumpColumns.{texts_begin_in_one_column}
use Rattle.ufmt.proofs.DumpRows.{AreRowsOf-chunks, length-digits_column}
use Rattle.ufmt.proofs.Dumps.{bytes_per_group-some, bytes_per_row-some}
use Rattle.ufmt.proofs.laws.dump_rows_have_each_byte.Goals as goal

pub returns-clause-rows : goal.returns-clause-rows
returns-clause-rows c = λ dump bytes. AreRowsOf-chunks (bytes_per_row dump) bytes (bytes_per_row-some dump)

pub returns-clause-width : goal.returns-clause-width
returns-clause-width c = λ dump row. length-digits_column (bytes_per_group dump) row (bytes_per_group-some dump)

pub returns-clause-column : goal.returns-clause-column
returns-clause-column c = texts_begin_in_one_column
