use Rattle.ufmt.proofs.FixedTexts.{fixed_text_is_leaf}
use Rattle.ufmt.proofs.laws.floats.floats_print_decimals.Goals as goal

pub returns-clause-debug_leaf : goal.returns-clause-debug_leaf
returns-clause-debug_leaf g c = fixed_text_is_leaf
