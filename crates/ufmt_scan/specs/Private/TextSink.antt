-- What a sink that lays texts out has written.
use Rattle.std.specs.Prelude.{◌≡◌, Bool, List}
use Rattle.ufmt_core.specs.Layout.{setting}
use Rattle.ufmt_core.specs.declared.layout.Mode.{Mode}
use Rattle.ufmt_core.specs.Writes.{Seen, Writes}
use Rattle.ufmt_scan.specs.declared.convert.text_sink.TextSink.{TextSink}
use Rattle.ufmt_scan.specs.Scan.{TextEvent}
use Rattle.ufmt_scan.specs.ScanTexts.{texts_written, last_setting}

-- it wrote the text of these events in this mode, or a prefix of it
pub record Wrote {W M : Type 0} (seen : Seen W) (mode : Mode) (ok : Bool) (old : TextSink W M) (es : List TextEvent) (new : TextSink W M) : Type 0 where
  pub writes : Writes seen old.writer.now (texts_written (setting mode old.depth) es) ok new.writer.now
  pub continues : setting mode new.depth ≡ last_setting (setting mode old.depth) es
  pub same_writer : new.writer.ghost_name ≡ old.writer.ghost_name
