use Rattle.std.proofs.Common.{sym}
use Rattle.example_print.specs.Logger.{measurement_document}
use Rattle.example_parse.proofs.MeasurementTokens.{IsTokenDocument-measurement, celsius_found}
use Rattle.example_parse.proofs.read_back.celsius.Goals as goal

pub returns-clause-logged : goal.returns-clause-logged
returns-clause-logged c = celsius_found c.read_field.result c.args.line.now c.read_field.ensures.each

pub returns-clause-is_read : goal.returns-clause-is_read
returns-clause-is_read c = λ refused r printed. c.read_field.ensures.not_text refused (measurement_document r) (IsTokenDocument-measurement r) (sym printed)
