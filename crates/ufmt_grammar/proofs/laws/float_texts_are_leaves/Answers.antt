use Rattle.ufmt_grammar.proofs.FloatLeaves.{float_is_leaf, float_is_word}
use Rattle.ufmt_grammar.proofs.laws.float_texts_are_leaves.Goals as goal

pub returns : goal.returns
returns c = record { debug_leaf = float_is_leaf; word = float_is_word }
