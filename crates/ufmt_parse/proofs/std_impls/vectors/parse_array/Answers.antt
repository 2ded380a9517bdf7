use Rattle.std.proofs.Common.{◌∙◌}
use Rattle.ufmt_parser.specs.Taking.{open_blocks}
use Rattle.ufmt_parse.proofs.OneWay.{array_refused}
use Rattle.ufmt_parse.proofs.std_impls.vectors.parse_array.Goals as goal

pub returns-in-Err-try_from-clause-takes : goal.returns-in-Err-try_from-clause-takes
returns-in-Err-try_from-clause-takes g c =
    rw c.refuse.ensures.fault (record {
      cases = (array_refused g.T.uParse.is_value g.T.uDebug.document g.row.N (open_blocks c.args.parser.now) g.M.ParseMode.mode c.in-Ok.ensures.takes
          (λ right. c.in-Err-try_from.ensures.1 (c.in-Ok.value.ok.0 ∙ right))).cases;
    })
