use Rattle.ufmt_parser.specs.Taking.{open_blocks}
use Rattle.ufmt_parse.proofs.Layers.{taken_by_recursion}
use Rattle.ufmt_parse.proofs.std_impls.vectors.EachParsesByVec.parse_by.Goals as goal

pub returns-clause-takes : goal.returns-clause-takes
returns-clause-takes g c =
    taken_by_recursion g.P.ParsesBy.is_value g.T.uDebug.document (λ values. values.items) g.M.ParseMode.mode (open_blocks c.args.parser.now) c.parse_list.ensures.takes
