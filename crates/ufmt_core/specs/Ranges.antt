-- The documents of ranges.
use Rattle.std.specs.Prelude.{ℕ, Bool, ◌&&◌, if◌then◌else◌, List, [], ◌∷◌, codes, Option}
use Rattle.std.specs.Ordering.{partial_le}
use Rattle.std.specs.declared.cmp.Ordering.{Ordering}
use Rattle.std.specs.Range.{range_inclusive_end, range_inclusive_exhausted, range_inclusive_start}
use Rattle.std.specs.declared.ops.RangeInclusive.{RangeInclusive}
use Rattle.ufmt_core.specs.Document.{Document, documents, joined, leaf}

-- a text after a document
abbrev pub before : Document → List ℕ → Document
before d text = joined (documents (d ∷ leaf text ∷ []))

-- a text before a document
abbrev pub after : List ℕ → Document → Document
after text d = joined (documents (leaf text ∷ d ∷ []))

-- a text between two documents
abbrev pub between : Document → List ℕ → Document → Document
between d text e = joined (documents (d ∷ after text e ∷ []))

-- whether a range gave its last value
abbrev pub is_spent : {T : Type 0} → (T → T → Option Ordering) → RangeInclusive T → Bool
is_spent partial_cmp r = range_inclusive_exhausted r && partial_le partial_cmp (range_inclusive_start r) (range_inclusive_end r)

-- `start..=end`, and ` (exhausted)` after it if the range is spent
abbrev pub range_inclusive_document : {T : Type 0} → (T → Document) → (T → T → Option Ordering) → RangeInclusive T → Document
range_inclusive_document f partial_cmp r =
    before (between (f (range_inclusive_start r)) (codes "..=") (f (range_inclusive_end r))) (if is_spent partial_cmp r then codes " (exhausted)" else [])
