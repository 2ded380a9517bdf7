use Rattle.example_parse.proofs.AlarmTokens.{IsDebugDocument-alarm}
use Rattle.example_parse.proofs.alarm.parse_alarm.Goals as goal

pub returns-clause-not_text : goal.returns-clause-not_text
returns-clause-not_text c = λ at expected refused alarm is. c.parse.ensures.not_text at expected refused alarm is (IsDebugDocument-alarm alarm)
