-- What a sink has seen that looks at a document's shape.
use Rattle.std.specs.Prelude.{◌≡◌, List}
use Rattle.ufmt_scan.specs.declared.text.Shape.{Shape}
use Rattle.ufmt_scan.specs.Fronts.{begun_after, leaves_after, opened_after}
use Rattle.ufmt_scan.specs.Scan.{TextEvent}

-- it has seen these events
pub record Saw (old : Shape) (es : List TextEvent) (new : Shape) : Type 0 where
  pub entries : new.has_entries ≡ opened_after old.has_entries es
  pub blocks : new.has_block ≡ begun_after old.has_block es
  pub leaves : new.leaves ≡ leaves_after old.leaves es
