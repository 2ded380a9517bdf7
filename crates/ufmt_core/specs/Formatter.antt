-- What contracts see of a formatter: its writer, its mode and depth, and what a call prints.
use Rattle.std.specs.Prelude.{◌≡◌, ℕ, List, Bool}
pub use Rattle.ufmt_core.specs.declared.formatter.Formatter.{Formatter}
use Rattle.ufmt_core.specs.Document.{Document}
use Rattle.ufmt_core.specs.Layout.{Mode, Plain, Pretty, Setting, layout, setting}
use Rattle.ufmt_core.specs.Writes.{Seen, Writes}

module _ {W : Type 0} where
  abbrev pub writer_of : Formatter W → W
  writer_of f = f.writer

  -- the mode and depth
  abbrev pub setting_of : Formatter W → Setting
  setting_of f = f.setting

  abbrev pub mode_of : Formatter W → Mode
  mode_of f = f.setting.mode

  abbrev pub depth_of : Formatter W → ℕ
  depth_of f = f.setting.depth

  -- plain mode, depth 0
  abbrev pub IsNew : Formatter W → Type 0
  IsNew f = setting_of f ≡ setting Plain 0

  -- the formatter at this mode and depth
  abbrev pub at_setting : Formatter W → Setting → Formatter W
  at_setting f s = record f { setting = s }

  -- the formatter in pretty mode, at its depth
  abbrev pub in_pretty_mode : Formatter W → Formatter W
  in_pretty_mode f = at_setting f (setting Pretty (depth_of f))

  -- the text was written, or a prefix of it, and mode and depth are as before
  pub record Prints (seen : Seen W) (old : Formatter W) (text : List ℕ) (ok : Bool) (new : Formatter W) : Type 0 where
    pub wrote : Writes seen (writer_of old) text ok (writer_of new)
    pub same_setting : setting_of new ≡ setting_of old

  -- the document was laid out, or a prefix of it, and mode and depth are as before. Searches don't see `wrote`, so the
  -- names in a document stay whole there
  pub record LaysOut (seen : Seen W) (old : Formatter W) (d : Document) (ok : Bool) (new : Formatter W) : Type 0 where
    wrote : Writes seen (writer_of old) (layout (setting_of old) d) ok (writer_of new)
    pub same_setting : setting_of new ≡ setting_of old

  -- it says that the layout was written
  pub lays_out : {seen : Seen W} {old new : Formatter W} {d : Document} {ok : Bool}
      → Prints seen old (layout (setting_of old) d) ok new → LaysOut seen old d ok new
  lays_out p = record { wrote = p.wrote; same_setting = p.same_setting }

  pub prints_layout : {seen : Seen W} {old new : Formatter W} {d : Document} {ok : Bool}
      → LaysOut seen old d ok new → Prints seen old (layout (setting_of old) d) ok new
  prints_layout l = record { wrote = l.wrote; same_setting = l.same_setting }
