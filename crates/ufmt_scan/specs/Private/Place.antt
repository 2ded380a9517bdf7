-- What a counter of events has counted.
use Rattle.std.specs.Prelude.{◌≡◌, ◌+◌, ◌^◌, ◌<◌, List, length}
use Rattle.ufmt_scan.specs.declared.place.EventCounter.{EventCounter}
use Rattle.ufmt_scan.specs.Scan.{TextEvent}
use Rattle.ufmt_scan.specs.ScanTexts.{texts_written, last_setting}

-- it counted the bytes of these events' texts, unless they are more than a `usize` counts
pub record Counted (old : EventCounter) (es : List TextEvent) (new : EventCounter) : Type 0 where
  pub counts : old.count + length (texts_written old.setting es) < 2 ^ 64 → new.count ≡ old.count + length (texts_written old.setting es)
  pub continues : new.setting ≡ last_setting old.setting es
