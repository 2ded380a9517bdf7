use Rattle.std.proofs.Common.{◌≡◌, ◌∙◌, ◌+◌, ◌-◌, arith, ⊎_elim}
use Rattle.std.proofs.lemmas.Bool.{cases_lt}
use Rattle.ufmt_values.proofs.Searches.{last_marked, none_marked}
use Rattle.ufmt_values.proofs.search.len_through_last.Goals as goal

pub returns-then-found-ne0-clause-end : goal.returns-then-found-ne0-clause-end
returns-then-found-ne0-clause-end g c =
    let found = last_marked g.S.ByteSet.has c.args.text.now (c.vectors.end - 16) c.marks-found.result (omega arith) c.marks-found.ensures c.ilog2.result c.ilog2.ensures.power_le c.ilog2.ensures.next_power_gt
    (λ k from less. c.vectors.invariant.1 k (omega (arith, from)) less) in
    let place : c.vectors.end - 15 + c.ilog2.result ≡ c.vectors.end - 16 + 1 + c.ilog2.result = omega arith in
    place ∙ found.1

pub returns-then-found-ne0-clause-within : goal.returns-then-found-ne0-clause-within
returns-then-found-ne0-clause-within g c =
    let found = last_marked g.S.ByteSet.has c.args.text.now (c.vectors.end - 16) c.marks-found.result (omega arith) c.marks-found.ensures c.ilog2.result c.ilog2.ensures.power_le c.ilog2.ensures.next_power_gt
    (λ k from less. c.vectors.invariant.1 k (omega (arith, from)) less) in
    let few = found.0 in
    omega (arith, few)

pub vectors-preserved : goal.vectors-preserved
vectors-preserved g c =
    let none = none_marked g.S.ByteSet.has c.args.text.now (c.vectors.end - 16) c.marks-found.result (omega arith) c.marks-found.ensures c.if-found-ne0.false in
    (omega arith, λ k from less. ⊎_elim (λ left. none k from (omega (arith, left))) (λ right. c.vectors.invariant.1 k right less) (cases_lt k c.vectors.end))
