-- The document of an alarm can be read again.
use Rattle.std.proofs.Common.{arith, inl, inr, pos, refl, String}
use Rattle.std.specs.Prelude.{codes, string_bytes}
use Rattle.std.specs.Str.{chars}
use Rattle.std.proofs.lemmas.Str.{IsUtf8-string_bytes, scalars-chars}
use Rattle.ufmt.specs.Token.{IsBuilt, IsDebugDocument, IsTokenDocument}
use Rattle.ufmt.specs.ValueDocuments.{string}
use Rattle.ufmt_grammar.proofs.NumbersAreWords.{IsBuilt-integer}
use Rattle.ufmt_grammar.proofs.ClassLeaves.{IsName-from}
use Rattle.ufmt_grammar.proofs.ClassTokens.{tokens_are_debug}
use Rattle.ufmt_grammar.specs.declared.class.Class.TheVariants.{Token}
use Rattle.example_parse.specs.Alarm.{alarm_document}
use Rattle.example_parse.specs.declared.alarm.Alarm.{Alarm}

-- a text in quotes is a token leaf
IsBuilt-string : {A : Type 0} (s : String A) → IsBuilt Token (string s)
IsBuilt-string s = record { shape = inr (inr (inl (chars (string_bytes s), scalars-chars (string_bytes s) (IsUtf8-string_bytes s), refl))) }

-- its names are words, its leaves a number and a text in quotes, and it is one block
pub IsTokenDocument-alarm : (a : Alarm) → IsTokenDocument (alarm_document a)
IsTokenDocument-alarm a = (
  (
    IsName-from Token (codes "Alarm") refl,
    (IsName-from Token (codes "node") refl, IsBuilt-integer (pos a.node), (IsName-from Token (codes "text") refl, IsBuilt-string a.text, tt)),
  ),
  omega arith,
)

-- so it is a debug document too
pub IsDebugDocument-alarm : (a : Alarm) → IsDebugDocument (alarm_document a)
IsDebugDocument-alarm a = tokens_are_debug (alarm_document a) (IsTokenDocument-alarm a)
