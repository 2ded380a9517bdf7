use Rattle.std.specs.Cow.{cow_slice_items}
use Rattle.ufmt_parse.proofs.KeysInARow.{lists_equal}
use Rattle.ufmt_parse.proofs.keys.CowSliceParseKey.prove_key.Goals as goal

pub returns : goal.returns
returns g c = λ x y is_x is_y same.
    lists_equal g.K.Ord.cmp g.K.uParse.is_value g.K.uDebug.document c.prove_key.ensures (cow_slice_items x) (cow_slice_items y) is_x is_y same
