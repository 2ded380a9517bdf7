use Rattle.ufmt_lines.proofs.ComesBack.{plain_texts_come_back}
use Rattle.ufmt_lines.proofs.WholeOutputs.{plain_logs_come_back}
use Rattle.ufmt_lines.proofs.run.laws.plain_logs_come_back.Goals as goal

pub returns-clause-log : goal.returns-clause-log
returns-clause-log c = plain_logs_come_back

pub returns-clause-text : goal.returns-clause-text
returns-clause-text c = plain_texts_come_back
