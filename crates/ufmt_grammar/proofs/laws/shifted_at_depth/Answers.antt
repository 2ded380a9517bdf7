use Rattle.ufmt_core.proofs.Shifting.{shift-line, shift_times-shifted, shifted-pretty_text}
use Rattle.ufmt_grammar.proofs.ClassLines.{IsBuilt-HasNoLineFeed}
use Rattle.ufmt_grammar.proofs.laws.shifted_at_depth.Goals as goal

pub returns-clause-shift : goal.returns-clause-shift
returns-clause-shift c = shift-line

pub returns-clause-at_depth : goal.returns-clause-at_depth
returns-clause-at_depth c = shift_times-shifted

pub returns-clause-pretty : goal.returns-clause-pretty
returns-clause-pretty c = shifted-pretty_text

pub returns-clause-class : goal.returns-clause-class
returns-clause-class c = λ class d h. IsBuilt-HasNoLineFeed class d h.0
