use Rattle.std.proofs.Common.{Err}
use Rattle.ufmt_parser.specs.declared.parser.Fault.TheVariants.{NotText}
use Rattle.ufmt_parser.specs.Taking.{open_blocks}
use Rattle.ufmt_parse.proofs.SortedKeys.{set_refused}
use Rattle.ufmt_parser.proofs.Views.{viewed}
use Rattle.ufmt_parse.proofs.std_impls.sorted.parse_set.Goals as goal

pub returns-in-Ok-None-clause-takes : goal.returns-in-Ok-None-clause-takes
returns-in-Ok-None-clause-takes g c = rw c.refuse.ensures.fault (viewed (λ set. set.keys) {outcome = Err NotText}
    (record { cases = (set_refused g.met.T.Ord.total g.T.uParse.is_value g.T.uDebug.document c.prove_key.ensures (open_blocks c.args.parser.now) g.M.ParseMode.mode (rw c.in-Ok-None.field-0-is at c.in-Ok-None.ensures) c.in-Ok.ensures.takes).cases }))
