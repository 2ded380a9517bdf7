-- What events say of a document's shape.
use Rattle.std.proofs.Common.{◌≡◌, refl, ◌∙◌, sym, ap, Bool, List, [], ◌∷◌, ◌++◌}
use Rattle.ufmt_core.specs.declared.layout.Count.{Count}
use Rattle.ufmt_scan.specs.declared.text.Shape.{Shape}
use Rattle.ufmt_scan.specs.Fronts.{begun_after, begun_by, leaves_after, leaves_with, opened_after, opened_by}
use Rattle.ufmt_scan.specs.Private.Shapes.{Saw}
use Rattle.ufmt_scan.specs.Scan.{TextEvent}

-- one event more
opened_more : (before : Bool) (es : List TextEvent) (e : TextEvent) → opened_after before (es ++ e ∷ []) ≡ opened_by (opened_after before es) e
opened_more before [] e = refl
opened_more before (d ∷ es) e = opened_more (opened_by before d) es e

begun_more : (before : Bool) (es : List TextEvent) (e : TextEvent) → begun_after before (es ++ e ∷ []) ≡ begun_by (begun_after before es) e
begun_more before [] e = refl
begun_more before (d ∷ es) e = begun_more (begun_by before d) es e

leaves_more : (count : Count) (es : List TextEvent) (e : TextEvent) → leaves_after count (es ++ e ∷ []) ≡ leaves_with (leaves_after count es) e
leaves_more count [] e = refl
leaves_more count (d ∷ es) e = leaves_more (leaves_with count d) es e

pub saw_event : (start old new : Shape) (es : List TextEvent) (e : TextEvent) → Saw start es old → new.has_entries ≡ opened_by old.has_entries e → new.has_block ≡ begun_by old.has_block e
    → new.leaves ≡ leaves_with old.leaves e
    → Saw start (es ++ e ∷ []) new
saw_event start old new es e before entries blocks leaves = record {
  entries = entries ∙ ap (λ b. opened_by b e) before.entries ∙ sym (opened_more start.has_entries es e);
  blocks = blocks ∙ ap (λ b. begun_by b e) before.blocks ∙ sym (begun_more start.has_block es e);
  leaves = leaves ∙ ap (λ n. leaves_with n e) before.leaves ∙ sym (leaves_more start.leaves es e);
}
