use Rattle.std.proofs.Common.{◌≡◌, ◌++◌, length}
use Rattle.std.specs.List.Sorted.{IsStrictlySortedBy}
use Rattle.std.specs.Map.{keys_of}
use Rattle.ufmt_parser.proofs.ascending.ascending_map.Given as goal

-- the entries that are left, and those of the map, are the entries; the map's keys ascend
abbrev pub invariant-entries : goal.invariant-entries
invariant-entries g l = record {
  split : l.left.items ++ l.map.entries ≡ l.fn.entries.items;
  ordered : IsStrictlySortedBy g.K.Ord.cmp (keys_of l.map.entries);
}

abbrev pub decreases-entries : goal.decreases-entries
decreases-entries g l = length l.left.items
