use Rattle.example_parse.proofs.CommandTokens.{IsDebugDocument-mix}
use Rattle.example_parse.proofs.command.parse_command.Goals as goal

pub returns-clause-not_text : goal.returns-clause-not_text
returns-clause-not_text c = λ at expected refused set is_channel is_level. c.parse.ensures.not_text at expected refused set (is_channel, is_level) (IsDebugDocument-mix set)
