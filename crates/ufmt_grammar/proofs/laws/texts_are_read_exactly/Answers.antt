use Rattle.ufmt_grammar.proofs.ReadingWhole.{reads_only_texts, reads_each_text, refuses_only_unprinted}
use Rattle.ufmt_grammar.proofs.laws.texts_are_read_exactly.Goals as goal

pub returns-clause-only : goal.returns-clause-only
returns-clause-only c = reads_only_texts

pub returns-clause-each : goal.returns-clause-each
returns-clause-each c = reads_each_text

pub returns-clause-refused : goal.returns-clause-refused
returns-clause-refused c = refuses_only_unprinted
