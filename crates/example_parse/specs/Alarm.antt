-- The document of an alarm.
use Rattle.std.specs.Prelude.{[], ◌∷◌}
use Rattle.example_parse.specs.declared.alarm.Alarm.{Alarm}
use Rattle.ufmt.specs.Document.{Document}
use Rattle.ufmt.specs.ValueDocuments.{named_struct, number, string}

abbrev pub alarm_document : Alarm → Document
alarm_document a = named_struct "Alarm" (("node", number a.node) ∷ ("text", string a.text) ∷ [])
