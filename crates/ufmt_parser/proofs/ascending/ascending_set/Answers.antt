use Rattle.std.proofs.Common.{◌≡◌, ◌∙◌, ◌∷◌, [], ◌++◌, ap, sym, subst, append_assoc, true≢false}
use Rattle.std.specs.List.Sorted.{IsStrictlySortedBy}
use Rattle.ufmt_parser.proofs.AscendingKeys.{before_next}
use Rattle.ufmt_parser.proofs.ascending.ascending_set.Goals as goal

pub returns-then-not-is_before_set : goal.returns-then-not-is_before_set
returns-then-not-is_before_set g c = λ sorted.
    let left = c.pop.new.self.items in
    let keys = c.keys.set.keys in
    let split : c.args.keys.items ≡ left ++ c.in-Some.key ∷ keys = sym c.keys.invariant ∙ ap (λ front. front ++ keys) c.in-Some.ensures.items ∙ append_assoc left (c.in-Some.key ∷ []) keys in
    let before = c.is_before_set.ensures.1 (before_next g.T.Ord.cmp left c.in-Some.key keys (subst (IsStrictlySortedBy g.T.Ord.cmp) split sorted)) in
    true≢false (sym before ∙ c.if-not-is_before_set.true)
