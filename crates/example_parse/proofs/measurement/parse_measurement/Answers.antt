use Rattle.example_parse.proofs.MeasurementTokens.{is_debug_document}
use Rattle.example_parse.proofs.measurement.parse_measurement.Goals as goal

pub returns-clause-not_text : goal.returns-clause-not_text
returns-clause-not_text c = λ at expected refused m is_channel is_celsius.
    c.parse.ensures.not_text at expected refused m (is_channel, is_celsius) (is_debug_document m.channel m.celsius)
