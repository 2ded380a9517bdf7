use Rattle.ufmt_values.proofs.FoundFields.{fields_found, fields_placed}
use Rattle.ufmt_values.proofs.laws.printed_fields_are_found.Goals as goal

pub returns-clause-field : goal.returns-clause-field
returns-clause-field c = fields_found

pub returns-clause-place : goal.returns-clause-place
returns-clause-place c = fields_placed
