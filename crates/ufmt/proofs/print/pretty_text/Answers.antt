use Rattle.std.proofs.Common.{rules}
use Rattle.ufmt_core.proofs.Shifting.{shifted-pretty_text}
use Rattle.ufmt.proofs.print.pretty_text.Goals as goal

pub returns-clause-shifted : goal.returns-clause-shifted
returns-clause-shifted g c = λ lines deep. rw (shifted-pretty_text (g.T.uDebug.document c.args.value.now) lines deep) (search rules)
