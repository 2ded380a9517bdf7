use Rattle.std.proofs.Common.{true, false, refl}
use Rattle.ufmt_parser.specs.Taking.{open_blocks}
use Rattle.ufmt_parse.proofs.Truths.{truth_fits}
use Rattle.ufmt_parse.proofs.core_impls.primitives.BooluParse.parse_from.Goals as goal

pub returns-then-eat-clause-taken : goal.returns-then-eat-clause-taken
returns-then-eat-clause-taken g c = (c.if-eat.ensures.eats, truth_fits (open_blocks c.args.parser.now) c.eat.ensures.counted true)

pub returns-then-eat-2-clause-taken : goal.returns-then-eat-2-clause-taken
returns-then-eat-2-clause-taken g c =
    (rw (c.if-eat.ensures.stays refl) at c.if-eat-2.ensures.eats, truth_fits (open_blocks c.args.parser.now) c.eat.ensures.counted false)
