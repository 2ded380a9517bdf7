use Rattle.std.proofs.Common.{length, refl, ◌∙◌}
use Rattle.ufmt_core.proofs.LastDigits.{index_from_end}
use Rattle.ufmt.proofs.radix.digits.end_of.Goals as goal

pub text_from-requires-clause-ascii : goal.text_from-requires-clause-ascii
text_from-requires-clause-ascii c =
    let size = c.next_power_of_two-size in
    rw (index_from_end c.args.start (length c.args.buffer.now) size.result c.requires.within size.ensures.lower_bound) c.requires.ascii

pub returns : goal.returns
returns c =
    let size = c.next_power_of_two-size in
    c.text_from.ensures ∙ rw (index_from_end c.args.start (length c.args.buffer.now) size.result c.requires.within size.ensures.lower_bound) refl
