use Rattle.ufmt_float.proofs.TextLaws.{texts_are_parsed, no_two_floats}
use Rattle.ufmt_float.proofs.laws.float_texts_are_parsed.Goals as goal

pub returns : goal.returns
returns c = record { parsed = texts_are_parsed; one_float = no_two_floats }
