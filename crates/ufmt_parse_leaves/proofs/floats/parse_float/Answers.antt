use Rattle.std.proofs.Common.{◌∙◌, sym, ap, true, Ok, Err}
use Rattle.ufmt_core.specs.Document.{leaf}
use Rattle.ufmt_core.specs.FloatText.{float_text}
use Rattle.ufmt_parser.specs.Taking.{open_blocks, rest}
use Rattle.ufmt_parser.specs.declared.parser.Fault.TheVariants.{NotText}
use Rattle.ufmt_parser.proofs.Clauses.{none_clause, only_clause, taken_clause, taken_shrinks}
use Rattle.ufmt_parse_leaves.specs.Private.FloatBytes.{after_float}
use Rattle.ufmt_parse_leaves.specs.Values.{IsFloatOf}
use Rattle.ufmt_parse_leaves.proofs.FloatFronts.{float_front, float_taken, float_refused}
use Rattle.ufmt_parse_leaves.proofs.floats.parse_float.Goals as goal

pub returns-in-Some-clause-taken : goal.returns-in-Some-clause-taken
returns-in-Some-clause-taken g c =
    let front = sym (ap float_front c.rest.ensures.rest) ∙ c.in-Some.ensures.1 in
    let after = sym (ap after_float c.rest.ensures.rest) ∙ c.in-Some.ensures.2 ∙ sym c.skip_to.ensures.rest in
    taken_clause g.M.ParseMode.mode (λ v. IsFloatOf g.F.Float-2.format (g.F.Float-2.value v)) (λ v. leaf (float_text g.F.Float-2.format true (g.F.Float-2.value v))) c.args.parser.now c.skip_to.new.self (Ok c.in-Some.taken.0)
    (float_taken g.F.Float-2.format g.F.Float-2.value (open_blocks c.args.parser.now) (rest c.args.parser.now) c.in-Some.taken.0 (rest c.skip_to.new.self) c.rest.ensures.counted c.in-Some.ensures.0 front after)

pub returns-in-Some-clause-only : goal.returns-in-Some-clause-only
returns-in-Some-clause-only g c =
    let front = sym (ap float_front c.rest.ensures.rest) ∙ c.in-Some.ensures.1 in
    let after = sym (ap after_float c.rest.ensures.rest) ∙ c.in-Some.ensures.2 ∙ sym c.skip_to.ensures.rest in
    only_clause g.M.ParseMode.mode (λ v. IsFloatOf g.F.Float-2.format (g.F.Float-2.value v)) (λ v. leaf (float_text g.F.Float-2.format true (g.F.Float-2.value v))) c.args.parser.now c.skip_to.new.self (Ok c.in-Some.taken.0)
    (float_taken g.F.Float-2.format g.F.Float-2.value (open_blocks c.args.parser.now) (rest c.args.parser.now) c.in-Some.taken.0 (rest c.skip_to.new.self) c.rest.ensures.counted c.in-Some.ensures.0 front after)

pub returns-in-None-clause-none : goal.returns-in-None-clause-none
returns-in-None-clause-none g c =
    let front = ap float_front c.rest.ensures.rest in
    rw c.refuse.ensures.fault (none_clause g.M.ParseMode.mode (λ v. IsFloatOf g.F.Float-2.format (g.F.Float-2.value v)) (λ v. leaf (float_text g.F.Float-2.format true (g.F.Float-2.value v))) c.args.parser.now c.refuse.new.self (Err NotText)
    (float_refused g.F.Float-2.format g.F.Float-2.value (open_blocks c.args.parser.now) (rest c.args.parser.now) (rest c.refuse.new.self)
    (λ v float same. c.in-None.ensures v float (front ∙ same))))

pub returns-in-Some-clause-shrinks : goal.returns-in-Some-clause-shrinks
returns-in-Some-clause-shrinks g c = taken_shrinks (float_text g.F.Float-2.format true (g.F.Float-2.value c.in-Some.taken.0)) _ _ (returns-in-Some-clause-taken g c).0
