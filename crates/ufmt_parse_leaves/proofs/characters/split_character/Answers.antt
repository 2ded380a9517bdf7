use Rattle.std.proofs.Common.{refl}
use Rattle.ufmt_parse_leaves.proofs.CharacterFronts.{no_character, utf8_found}
use Rattle.ufmt_parse_leaves.proofs.characters.split_character.Goals as goal

pub returns-in-None : goal.returns-in-None
returns-in-None c = λ d rest scalar is. no_character c.args.quote c.requires c.args.input.now (c.in-None.ensures.none refl) d rest is

pub returns-else-byte-lt128 : goal.returns-else-byte-lt128
returns-else-byte-lt128 c = utf8_found c.args.quote c.requires c.args.input.now _ _ c.split_utf8.result c.in-Some.ensures.some c.if-byte-lt128.false c.split_utf8.ensures
