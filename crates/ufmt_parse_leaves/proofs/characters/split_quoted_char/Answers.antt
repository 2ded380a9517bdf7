use Rattle.ufmt_parse_leaves.proofs.CharacterFronts.{not_closed}
use Rattle.ufmt_parse_leaves.proofs.characters.split_quoted_char.Goals as goal

pub returns-in-None-strip_byte : goal.returns-in-None-strip_byte
returns-in-None-strip_byte c = λ d rest scalar is.
    not_closed c.args.input.now c.in_ok-inside.inside.now c.in-Some.front.1.now c.in-Some.front.0 c.in_ok-inside.ensures c.in-Some.ensures.1 c.in-None-strip_byte.ensures d rest is
