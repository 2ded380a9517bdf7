use Rattle.std.proofs.Common.{refl, ◌∙◌}
use Rattle.ufmt_core.proofs.LastDigits.{index_from_end}
use Rattle.ufmt_core.proofs.unsigned.end_of.Goals as goal

pub text_from-requires-clause-ascii : goal.text_from-requires-clause-ascii
text_from-requires-clause-ascii g c =
    let size = c.next_power_of_two-size in
    rw (index_from_end c.args.start g.row.N size.result c.requires.within size.ensures.lower_bound) c.requires.ascii

pub returns : goal.returns
returns g c =
    let size = c.next_power_of_two-size in
    c.text_from.ensures ∙ rw (index_from_end c.args.start g.row.N size.result c.requires.within size.ensures.lower_bound) refl
