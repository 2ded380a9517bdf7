use Rattle.std.proofs.Common.{◌<◌, ◌-◌, rules, tests}
use Rattle.std.proofs.lemmas.Iterator.{cases_from_all, YieldsList-from_slice}
use Rattle.ufmt_doc.proofs.Within.{all_decides}
use Rattle.ufmt_doc.proofs.doc.checks.VecSubtree.is_within.Goals as goal

pub returns : goal.returns
returns g c = let n = c.args.deepest in
    all_decides (λ x. (0 < n) × g.T.Subtree.within c.args.class (n - 1) x) c.all.result c.args.self.now.items
    (cases_from_all _ _ _ (λ x. (0 < n) × g.T.Subtree.within c.args.class (n - 1) x) (λ x. (0 < n) × g.T.Subtree.within c.args.class (n - 1) x → ⊥) c.all.ensures.ran
    (YieldsList-from_slice c.args.self.now.items (cc)) (λ x q k. search (rules, tests)) (λ x q k. search (rules, tests)))
