use Rattle.std.proofs.Common.{rules}
use Rattle.ufmt.specs.Pieces.{line_text}
use Rattle.ufmt.proofs.SamePieces.{one_line}
use Rattle.ufmt.proofs.print.write_line.Goals as goal

pub returns-clause-line : goal.returns-clause-line
unfolding line_text
returns-clause-line g c = search rules

pub returns-clause-alike : goal.returns-clause-alike
returns-clause-alike g c = λ ps same. rw (one_line ps _ same) (returns-clause-line g c)
