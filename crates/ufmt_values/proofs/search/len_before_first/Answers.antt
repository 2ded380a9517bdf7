use Rattle.std.proofs.Common.{arith, ⊎_elim}
use Rattle.std.proofs.lemmas.Bool.{cases_lt}
use Rattle.ufmt_values.proofs.Searches.{first_marked, none_marked}
use Rattle.ufmt_values.proofs.search.len_before_first.Goals as goal

pub returns-then-found-ne0-clause-place : goal.returns-then-found-ne0-clause-place
returns-then-found-ne0-clause-place g c =
    (first_marked g.S.ByteSet.has c.args.text.now c.vectors.at c.marks-found.result (omega arith) c.marks-found.ensures c.if-found-ne0.true (λ k _ less. c.vectors.invariant.1 k less)).1

pub returns-then-found-ne0-clause-within : goal.returns-then-found-ne0-clause-within
returns-then-found-ne0-clause-within g c =
    (first_marked g.S.ByteSet.has c.args.text.now c.vectors.at c.marks-found.result (omega arith) c.marks-found.ensures c.if-found-ne0.true (λ k _ less. c.vectors.invariant.1 k less)).0

pub vectors-preserved : goal.vectors-preserved
vectors-preserved g c =
    let none = none_marked g.S.ByteSet.has c.args.text.now c.vectors.at c.marks-found.result (omega arith) c.marks-found.ensures c.if-found-ne0.false in
    (omega arith, λ k less. ⊎_elim (λ left. c.vectors.invariant.1 k left) (λ right. none k right less) (cases_lt k c.vectors.at))
