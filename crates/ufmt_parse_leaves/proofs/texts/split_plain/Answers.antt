use Rattle.std.proofs.Common.{◌∙◌, ap}
use Rattle.ufmt_parse_leaves.specs.Spelling.{all_plain}
use Rattle.ufmt_parse_leaves.proofs.PlainFronts.{plain_ascii}
use Rattle.ufmt_parse_leaves.proofs.texts.split_plain.Goals as goal

pub text_from-requires-clause-ascii : goal.text_from-requires-clause-ascii
text_from-requires-clause-ascii c = plain_ascii c.split_at.result.0.now (ap all_plain c.split_at.ensures.front ∙ c.plain_len.ensures.plain)
