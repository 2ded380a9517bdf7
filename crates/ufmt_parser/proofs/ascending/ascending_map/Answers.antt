use Rattle.std.proofs.Common.{◌≡◌, ◌∙◌, ◌∷◌, [], ◌++◌, ap, sym, subst, append_assoc, true≢false}
use Rattle.std.specs.List.Sorted.{IsStrictlySortedBy}
use Rattle.std.specs.Map.{keys_of}
use Rattle.ufmt_parser.proofs.AscendingKeys.{before_next, entry_moved, keys_split}
use Rattle.ufmt_parser.proofs.ascending.ascending_map.Goals as goal

pub returns-then-not-is_before_map : goal.returns-then-not-is_before_map
returns-then-not-is_before_map g c = λ sorted.
    let left = c.pop.new.self.items in
    let entries = c.entries.map.entries in
    let split : c.args.entries.items ≡ left ++ (c.in-Some.key, c.in-Some.value) ∷ entries = sym c.entries.invariant.split
    ∙ ap (λ front. front ++ entries) c.in-Some.ensures.items ∙ append_assoc left ((c.in-Some.key, c.in-Some.value) ∷ []) entries in
    let before = c.is_before_map.ensures.1 (before_next g.K.Ord.cmp (keys_of left) c.in-Some.key (keys_of entries)
    (subst (IsStrictlySortedBy g.K.Ord.cmp) (ap keys_of split ∙ keys_split left (c.in-Some.key, c.in-Some.value) entries) sorted)) in
    true≢false (sym before ∙ c.if-not-is_before_map.true)

pub entries-preserved-in_ok-insert : goal.entries-preserved-in_ok-insert
entries-preserved-in_ok-insert g c = record {
  split = entry_moved g.K.Ord.cmp c.pop.new.self.items c.entries.map.entries c.in-Some.key c.in-Some.value c.in-Some.ensures.items (c.is_before_map.ensures.0 c.if-not-is_before_map.false)
      c.in_ok-insert.ensures.entries c.entries.invariant.split;
  ordered = c.in_ok-insert.ensures.ordered;
}

pub entries-preserved : goal.entries-preserved
entries-preserved g c = record {
  split = entry_moved g.K.Ord.cmp c.pop.new.self.items c.entries.map.entries c.in-Some.key c.in-Some.value c.in-Some.ensures.items (c.is_before_map.ensures.0 c.if-not-is_before_map.false)
      c.in_ok-insert.ensures.entries c.entries.invariant.split;
  ordered = c.in_ok-insert.ensures.ordered;
}
