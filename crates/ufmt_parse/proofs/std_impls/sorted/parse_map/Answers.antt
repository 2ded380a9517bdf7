use Rattle.std.proofs.Common.{Err, Ok}
use Rattle.ufmt_parser.specs.declared.parser.Fault.TheVariants.{NotText}
use Rattle.ufmt_parser.specs.Taking.{open_blocks}
use Rattle.ufmt_parse.proofs.SortedKeys.{map_refused, map_taken_too, no_map}
use Rattle.ufmt_parser.proofs.Views.{viewed}
use Rattle.ufmt_parse.proofs.std_impls.sorted.parse_map.Goals as goal

pub returns-in-Ok-None-clause-takes : goal.returns-in-Ok-None-clause-takes
returns-in-Ok-None-clause-takes g c = rw c.refuse.ensures.fault (viewed (λ map. map.entries) {outcome = Err NotText}
    (record {
      cases = (map_refused g.K.uDebug.document g.V.uDebug.document g.met.K.Ord.total g.K.uParse.is_value g.V.uParse.is_value c.prove_key.ensures (open_blocks c.args.parser.now) g.M.ParseMode.mode
          (rw c.in-Ok-None.field-0-is at c.in-Ok-None.ensures) c.in-Ok.ensures.takes).cases;
    }))

pub returns-in-Err-clause-takes : goal.returns-in-Err-clause-takes
returns-in-Err-clause-takes g c = viewed (λ map. map.entries) {outcome = Err c.in-Err.fault}
    (no_map g.K.uDebug.document g.V.uDebug.document g.met.K.Ord.total g.K.uParse.is_value g.V.uParse.is_value c.prove_key.ensures (open_blocks c.args.parser.now) g.M.ParseMode.mode c.in-Err.ensures.takes)

pub returns-in-Ok-Some-clause-takes : goal.returns-in-Ok-Some-clause-takes
returns-in-Ok-Some-clause-takes g c =
    let is = rw c.in-Ok-Some.field-0-is at c.in-Ok-Some.ensures in
    viewed (λ map. map.entries) {outcome = Ok c.in-Ok-Some.map}
    (map_taken_too g.K.uDebug.document g.V.uDebug.document g.met.K.Ord.total g.K.uParse.is_value g.V.uParse.is_value c.prove_key.ensures (open_blocks c.args.parser.now) g.M.ParseMode.mode
    is.0 is.1 c.in-Ok.ensures.takes)
