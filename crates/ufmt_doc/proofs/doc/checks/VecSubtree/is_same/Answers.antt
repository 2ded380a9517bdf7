use Rattle.std.proofs.Common.{arith, eqb-true, rules, tests}
use Rattle.std.specs.List.{zip}
use Rattle.std.proofs.lemmas.Iterator.{cases_from_all, YieldsList-from_slice, YieldsList-from_zip}
use Rattle.std.proofs.lemmas.Slice.Zip.{AllZip-long}
use Rattle.ufmt_doc.proofs.NormalForms.{zipped}
use Rattle.ufmt_doc.proofs.Within.{all_decides, as_well}
use Rattle.ufmt_doc.proofs.doc.checks.VecSubtree.is_same.Goals as goal

pub returns-then-len : goal.returns-then-len
returns-then-len g c =
    let xs = c.args.self.now.items in
    let ys = c.args.other.now.items in
    as_well (all_decides (λ p. g.T.Subtree.same p.0 p.1) c.all.result (zip xs ys)
    (cases_from_all c.all.new.self _ _ (λ p. g.T.Subtree.same p.0 p.1) (λ p. g.T.Subtree.same p.0 p.1 → ⊥) c.all.ensures.ran
    (YieldsList-from_zip (YieldsList-from_slice xs (cc)) (YieldsList-from_slice ys (cc)))
    (λ x q k. search (rules, tests)) (λ x q k. search (rules, tests)))) (zipped g.T.Subtree.same xs ys (omega arith))

pub returns-else-len : goal.returns-else-len
returns-else-len g c =
    let other = c.if-len.false in (
      λ yes. absurd (other (eqb-true _ _ yes)),
      λ all.
          let long = AllZip-long g.T.Subtree.same c.args.self.now.items c.args.other.now.items all in absurd (other (omega arith)),
    )
