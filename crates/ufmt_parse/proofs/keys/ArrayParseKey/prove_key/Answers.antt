use Rattle.ufmt_parse.proofs.KeysInARow.{lists_equal}
use Rattle.ufmt_parse.proofs.keys.ArrayParseKey.prove_key.Goals as goal

pub returns : goal.returns
returns g c = λ x y is_x is_y same. lists_equal g.K.Ord.cmp g.K.uParse.is_value g.K.uDebug.document c.prove_key.ensures x y is_x.0 is_y.0 same
