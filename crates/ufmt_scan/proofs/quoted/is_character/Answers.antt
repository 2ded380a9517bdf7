use Rattle.std.proofs.Common.{refl}
use Rattle.ufmt_scan.proofs.QuotedLeaves.{is_one, none_written}
use Rattle.ufmt_scan.proofs.quoted.is_character.Goals as goal

pub returns-in-Some-split_escaped : goal.returns-in-Some-split_escaped
returns-in-Some-split_escaped c = is_one _ _ _ c.in-Some.ensures.cases.0 c.in-Some-split_escaped.lead _ _ c.in-Some-split_escaped.ensures.some c.character_len.ensures

pub returns-in-None : goal.returns-in-None
returns-in-None c = none_written _ _ _ c.in-Some.ensures.cases.0 (c.in-None.ensures.none refl)
