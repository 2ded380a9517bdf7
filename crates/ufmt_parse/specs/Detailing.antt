-- What is expected where a text stops fitting, in detail, and how it reads.
use Rattle.std.specs.Prelude.{◌≡◌, ℕ, List, [], ◌∷◌, codes, option_map, Option, ⊤}
use Rattle.std.specs.Borrow.{Bor}
use Rattle.ufmt.specs.Document.{Document, documents, joined, leaf}
use Rattle.ufmt.specs.ValueDocuments.{number}
use Rattle.ufmt_parser.specs.declared.detail.Detail.{Detail}
use Rattle.ufmt_parser.specs.declared.detail.Detail.TheVariants as detail
use Rattle.ufmt_parse.specs.Expecting.{expected_words}
use Rattle.ufmt_parse.specs.Finding.{found_document}
use Rattle.ufmt_parse.specs.NamesBefore.{after_document}
use Rattle.ufmt_parse.specs.declared.expected.Expected.{Expected}
use Rattle.ufmt_parse.specs.declared.expected.Expected.TheVariants.{End}
use Rattle.ufmt_parse.specs.declared.error.ParseError.{ParseError}
use Rattle.ufmt_parse.specs.declared.error.ParseError.TheVariants.{NotText, OutOfMemory}
use Rattle.ufmt_parse.specs.declared.found.Found.{Found}
use Rattle.ufmt_parse.specs.declared.placed.PlacedError.{PlacedError}
use Rattle.ufmt_parse.specs.declared.placed.PlacedError.TheVariants as placed

-- words, and a name in backquotes after them
abbrev pub words_and_name : List ℕ → List ℕ → Document
words_and_name words name = joined (documents (leaf words ∷ leaf name ∷ leaf (codes "`") ∷ []))

-- a number of the range with this text
abbrev pub range_document : List ℕ → Document
range_document text = joined (documents (leaf (codes "a number from ") ∷ leaf text ∷ []))

-- how it reads after the word `expected`; without a detail as what is expected does
abbrev pub detail_document : Expected → Detail → Document
detail_document expected detail.Nothing = leaf (expected_words expected)
detail_document expected (detail.Name name) = words_and_name (codes "`") name.now
detail_document expected (detail.Variant name) = words_and_name (codes "a variant of `") name.now
detail_document expected detail.Truth = leaf (codes "`true` or `false`")
detail_document expected (detail.Field name) = words_and_name (codes "the field `") name.now
detail_document expected (detail.BeforeField name) = words_and_name (codes "punctuation before the field `") name.now
detail_document expected detail.NoField = leaf (codes "the end of the fields")
detail_document expected (detail.Range text) = range_document text.now
detail_document expected detail.NonZero = leaf (codes "a number other than 0")

-- how a place reads after what is expected there
abbrev pub place_document : ℕ → ℕ → Found → Option (Bor (List ℕ)) → Document
place_document line column found after = joined (documents (found_document found ∷ leaf (codes " at line ") ∷ number line
    ∷ leaf (codes " column ") ∷ number column ∷ after_document (option_map (λ name. name.now) after) ∷ []))

-- an error with a detail
abbrev pub detailed_document : PlacedError → Detail → Document
detailed_document (placed.NotText line column expected found after) detail = joined (documents (leaf (codes "expected ")
    ∷ detail_document expected detail ∷ place_document line column found after ∷ []))
detailed_document placed.OutOfMemory detail = leaf (codes "out of memory")

-- a detail that such an error may have: none if the value was whole before that place, and none if memory ran out
abbrev pub IsDetailOf : ParseError → Detail → Type 0
IsDetailOf (NotText at End) found = found ≡ detail.Nothing
IsDetailOf (NotText at expected) found = ⊤
IsDetailOf OutOfMemory found = found ≡ detail.Nothing
