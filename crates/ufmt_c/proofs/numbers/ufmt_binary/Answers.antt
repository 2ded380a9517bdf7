use Rattle.std.proofs.Common.{rules}
use Rattle.ufmt.specs.Radix.{padded_in}
use Rattle.ufmt.specs.Pieces.{line_text}
use Rattle.ufmt.specs.declared.radix.Radix.TheVariants.{Binary}
use Rattle.ufmt_c.specs.Options.{hex_of}
use Rattle.ufmt_c.proofs.NarrowNumbers.{stands_number}
use Rattle.ufmt_c.proofs.numbers.ufmt_binary.Goals as goal

pub returns-clause-text : goal.returns-clause-text
unfolding line_text
returns-clause-text c ascii =
    let options = hex_of c.args.style.now in
    let puts = c.print_longer.ensures (padded_in Binary options c.args.number)
    (stands_number Binary _ c.args.number options _ _ (search rules) c.in-Some.ensures.1 c.narrowed-narrow.ensures) in
    search (rules, puts)
