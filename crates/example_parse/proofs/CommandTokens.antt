-- The document of a command can be read again.
use Rattle.std.proofs.Common.{[], ◌∷◌, arith, pos, refl}
use Rattle.std.specs.Prelude.{codes}
use Rattle.ufmt.specs.Token.{IsDebugDocument, IsTokenDocument}
use Rattle.ufmt.specs.ValueDocuments.{integer, named_struct, number}
use Rattle.ufmt_grammar.proofs.NumbersAreWords.{IsBuilt-integer}
use Rattle.ufmt_grammar.proofs.ClassLeaves.{IsName-from}
use Rattle.ufmt_grammar.proofs.ClassTokens.{tokens_are_debug}
use Rattle.ufmt_grammar.specs.declared.class.Class.TheVariants.{Token}
use Rattle.ufmt_core.specs.Document.{Document}
use Rattle.example_parse.specs.declared.command.Mix.{Mix}

abbrev mix_document : Mix → Document
mix_document s = named_struct "Mix" (("channel", number s.channel) ∷ ("level", integer s.level) ∷ [])

-- its names are words, its leaves numbers, and it is one block
IsTokenDocument-mix : (s : Mix) → IsTokenDocument (mix_document s)
IsTokenDocument-mix s = (
  (
    IsName-from Token (codes "Mix") refl,
    (IsName-from Token (codes "channel") refl, IsBuilt-integer (pos s.channel), (IsName-from Token (codes "level") refl, IsBuilt-integer s.level, tt)),
  ),
  omega arith,
)

-- so it is a debug document too
pub IsDebugDocument-mix : (s : Mix) → IsDebugDocument (mix_document s)
IsDebugDocument-mix s = tokens_are_debug (mix_document s) (IsTokenDocument-mix s)
