-- The program's output for a command on an input.
use Rattle.std.specs.Prelude.{◌≡◌, ℕ, ◌-◌, List, [], ◌∷◌, ◌++◌, ◌==◌, if◌then◌else◌, length, map, pos, slice_index, take, Option, IfSome}
use Rattle.std.specs.Io.KnownBytes.{Appends}
use Rattle.std.specs.List.{onto_first}
use Rattle.ufmt_conv.specs.declared.run.command.Command.{Command}
use Rattle.ufmt_conv.specs.declared.run.command.Command.TheVariants.{Lengths, Pretty, Plain}
use Rattle.ufmt.specs.Bytes.{line_feed}
use Rattle.ufmt.specs.Decimal.{decimal}
use Rattle.ufmt.specs.Document.{Document, documents, leaf, list_of}
use Rattle.ufmt.specs.Layout.{plain_text, pretty_text}
use Rattle.ufmt_grammar.specs.declared.class.Class.TheVariants.{Token}
use Rattle.ufmt_doc.specs.Texts.{IsConverted, NoDocumentPrints}
use Rattle.ufmt_io.specs.Whole.{AppendsPrefix}

-- the lines that are counted, each without its line feed: bytes after the last line feed are one too, if there are any
abbrev pub counted_lines : List ℕ → List (List ℕ)
counted_lines [] = []
counted_lines (byte ∷ rest) = if byte == line_feed then [] ∷ counted_lines rest else onto_first byte (counted_lines rest)

-- how many bytes each line has
abbrev pub line_lengths : List ℕ → List ℕ
line_lengths input = map length (counted_lines input)

-- the plain text of a list of numbers
abbrev pub plain_list : List ℕ → List ℕ
plain_list numbers = plain_text (list_of (documents (map (λ number. leaf (decimal (pos number))) numbers)))

-- the input without a final line feed, if it has one
abbrev pub without_line_feed : List ℕ → List ℕ
without_line_feed input =
    let last = length input - 1 in
    if slice_index input last == line_feed then take last input else input

-- the output for a command on an input
abbrev pub IsOutput : Command → List ℕ → List ℕ → Type 0
IsOutput Lengths input output = output ≡ plain_list (line_lengths input)
IsOutput Pretty input output = IsConverted Token plain_text pretty_text (without_line_feed input) output
IsOutput Plain input output = IsConverted Token pretty_text plain_text (without_line_feed input) output

-- the bytes that are written for a command on an input: its output and a line feed
abbrev pub IsOutputLine : Command → List ℕ → List ℕ → Type 0
IsOutputLine command input line =
    (output : List ℕ) × IsOutput command input output × (line ≡ output ++ line_feed ∷ [])

-- if the bytes of input and output are known: the output for the whole input and a line feed were written
abbrev pub WritesOutput : Command → Option (List ℕ) → Option (List ℕ) → Option (List ℕ) → Type 0
WritesOutput command input old new = IfSome input (λ bytes. (line : List ℕ) × IsOutputLine command bytes line × Appends old new line)

-- if the bytes of input and output are known: a prefix of the output and a line feed was written
abbrev pub WritesOutputPrefix : Command → Option (List ℕ) → Option (List ℕ) → Option (List ℕ) → Type 0
WritesOutputPrefix command input old new = IfSome input (λ bytes. (line : List ℕ) × IsOutputLine command bytes line × AppendsPrefix old new line)

-- if the bytes of the input are known: without a final line feed they are no token document's text
abbrev pub NoDocumentPrintsInput : (Document → List ℕ) → Option (List ℕ) → Type 0
NoDocumentPrintsInput text_of input = IfSome input (λ bytes. NoDocumentPrints Token text_of (without_line_feed bytes))
