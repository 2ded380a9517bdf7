use Rattle.ufmt_float.proofs.TextLaws.{each_has_text, one_text}
use Rattle.ufmt_float.proofs.laws.floats_have_one_text.Goals as goal

pub returns : goal.returns
returns c = record { text = each_has_text; one_text = one_text }
