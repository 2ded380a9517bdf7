use Rattle.ufmt_parse.proofs.KeysInARow.{lists_equal}
use Rattle.ufmt_parse.proofs.keys.LinkedListParseKey.prove_key.Goals as goal

pub returns : goal.returns
returns g c = lists_equal g.K.Ord.cmp g.K.uParse.is_value g.K.uDebug.document c.prove_key.ensures
