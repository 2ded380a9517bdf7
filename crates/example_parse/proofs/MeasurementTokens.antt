-- The document of a measurement can be read again, and what its field says of the temperature.
use Rattle.std.proofs.Common.{◌≡◌, List, [], ◌∷◌, ℕ, ℤ, Some, IfOk, Option, Result, Ok, Err, option_map, String, Global, refl, sym, arith, pos}
use Rattle.std.specs.Prelude.{codes, string_bytes}
use Rattle.ufmt.specs.Decimal.{decimal}
use Rattle.ufmt.specs.Document.{Document}
use Rattle.ufmt.specs.Layout.{plain_text}
use Rattle.ufmt.specs.Token.{IsDebugDocument, IsTokenDocument, normal}
use Rattle.ufmt.specs.ValueDocuments.{integer, named_struct, number}
use Rattle.ufmt_grammar.proofs.NumbersAreWords.{IsBuilt-integer}
use Rattle.ufmt_doc.specs.FieldTexts.{ShowsField}
use Rattle.ufmt_doc.proofs.FieldTexts.{number_shown}
use Rattle.ufmt_scan.specs.declared.error.ReadError.{ReadError}
use Rattle.ufmt_grammar.proofs.ClassLeaves.{IsName-from}
use Rattle.ufmt_grammar.proofs.ClassTokens.{tokens_are_debug}
use Rattle.ufmt_grammar.specs.declared.class.Class.TheVariants.{Token}
use Rattle.example_print.specs.Logger.{measurement_document}
use Rattle.example_print.specs.declared.logger.Measurement.{Measurement}

-- the document of a measurement with these two numbers
abbrev document_of : ℕ → ℤ → Document
document_of channel celsius = named_struct "Measurement" (("channel", number channel) ∷ ("celsius", integer celsius) ∷ [])

-- its names are words, its leaves numbers, and it is one block
is_token_document : (channel : ℕ) (celsius : ℤ) → IsTokenDocument (document_of channel celsius)
is_token_document channel celsius = (
  (
    IsName-from Token (codes "Measurement") refl,
    (IsName-from Token (codes "channel") refl, IsBuilt-integer (pos channel), (IsName-from Token (codes "celsius") refl, IsBuilt-integer celsius, tt)),
  ),
  omega arith,
)

pub IsTokenDocument-measurement : (r : Measurement) → IsTokenDocument (measurement_document r)
IsTokenDocument-measurement r = is_token_document r.channel r.celsius

-- so it is a debug document too
pub is_debug_document : (channel : ℕ) (celsius : ℤ) → IsDebugDocument (document_of channel celsius)
is_debug_document channel celsius = tokens_are_debug (document_of channel celsius) (is_token_document channel celsius)

-- what the field shows is the decimal text
pub celsius_found : (outcome : Result (Option (String Global)) ReadError) (line : List ℕ)
    → IfOk outcome (λ text. (d : Document) → IsTokenDocument d → plain_text d ≡ line → ShowsField (codes "celsius") (normal d) text)
    → IfOk outcome (λ text. (r : Measurement) → line ≡ plain_text (measurement_document r) → option_map string_bytes text ≡ Some (decimal r.celsius))
celsius_found (Ok text) line found = λ r printed. number_shown r.celsius text (found (measurement_document r) (IsTokenDocument-measurement r) (sym printed))
celsius_found (Err e) line found = tt
