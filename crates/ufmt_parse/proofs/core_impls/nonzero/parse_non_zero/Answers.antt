use Rattle.std.proofs.Common.{◌≡◌, ◌∙◌, ap, length, arith}
use Rattle.ufmt_parser.specs.Taking.{rest}
use Rattle.ufmt_parse.proofs.NonZeroTexts.{zero_refused}
use Rattle.ufmt_parse.proofs.core_impls.nonzero.parse_non_zero.Goals as goal

pub returns-in-Err-clause-none : goal.returns-in-Err-clause-none
returns-in-Err-clause-none g c = λ is v holds.
    let number = c.prove_number.ensures.number v holds in
    rw number.1 (c.in-Err.ensures.none is (g.T.NonZero.get v) number.0)

pub returns-in-None-clause-none : goal.returns-in-None-clause-none
returns-in-None-clause-none g c = λ is v holds.
    let number = c.prove_number.ensures.number v holds in
    zero_refused g.M.ParseMode.mode g.T.uDebug.document c.in-Ok.value g.N.uDebug.document c.args.parser.now c.parse_from.new.parser c.in-Ok.ensures.taken
    v (λ s. c.in-None.ensures s v holds) (rw number.1 (c.in-Ok.ensures.only (g.T.NonZero.get v) number.0))

pub returns-in-Some-clause-taken : goal.returns-in-Some-clause-taken
returns-in-Some-clause-taken g c = rw c.in-Some.ensures c.in-Ok.ensures.taken

pub returns-in-Some-clause-only : goal.returns-in-Some-clause-only
returns-in-Some-clause-only g c = λ v holds.
    let number = c.prove_number.ensures.number v holds in
    rw number.1 (c.in-Ok.ensures.only (g.T.NonZero.get v) number.0)

pub returns-in-None-clause-stops : goal.returns-in-None-clause-stops
returns-in-None-clause-stops g c = λ at is place.
    let same = ap length (c.skip_to.ensures.rest ∙ c.rest-before.ensures.rest) in
    let none : at ≡ 0 = omega (arith, place, same, ap length c.refuse_in_detail.ensures.rest) in
    rw (none, c.refuse_in_detail.ensures.needs) (c.prove_number.ensures.stops (rest c.args.parser.now))
