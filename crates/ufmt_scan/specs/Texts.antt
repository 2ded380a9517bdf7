-- What readers and conversions promise.
use Rattle.std.specs.Prelude.{◌≡◌, ◌≢◌, List, ℕ, Bool, Result, String, IfOk, IsOk, IsErrOf, is_ok, length, string_bytes, ⊤}
use Rattle.ufmt_core.specs.Buffer.{Fronts}
use Rattle.ufmt_core.specs.Document.{Document}
use Rattle.ufmt_grammar.specs.declared.class.Class.{Class}
use Rattle.ufmt_grammar.specs.Token.{IsDocument, normal}
use Rattle.ufmt_core.specs.Writes.{Seen, Writes}
use Rattle.ufmt_core.specs.declared.layout.Mode.{Mode}
use Rattle.ufmt_core.specs.declared.layout.Mode.TheVariants.{Plain, Pretty}
use Rattle.ufmt_scan.specs.declared.error.ReadError.{ReadError}
use Rattle.ufmt_scan.specs.declared.error.ReadError.TheVariants.{NotText}
use Rattle.ufmt_scan.specs.declared.scan.event.ScanError.{ScanError}
use Rattle.ufmt_scan.specs.declared.scan.event.ScanError.TheVariants as errors

-- the mode of a text's other text
abbrev pub other_mode : Mode → Mode
other_mode Plain = Pretty
other_mode Pretty = Plain

-- a document of the class in normal form that has this text
abbrev pub IsNormalForm : Class → (Document → List ℕ) → List ℕ → Document → Type 0
IsNormalForm class text_of input d = IsDocument class d × (normal d ≡ d) × (text_of d ≡ input)

-- no document of the class has this text
abbrev pub NoDocumentPrints : Class → (Document → List ℕ) → List ℕ → Type 0
NoDocumentPrints class text_of input = (d : Document) → IsDocument class d → text_of d ≢ input

-- the input is converted to the output: some document of the class has the input as its text, and each such document has the output as its other text
pub record IsConverted (class : Class) (from to : Document → List ℕ) (input output : List ℕ) : Type 0 where
  pub some : (d : Document) × IsDocument class d × (from d ≡ input)
  pub each : (d : Document) → IsDocument class d → from d ≡ input → to d ≡ output

-- what a conversion returns: the other text, or `NotText`, if the input is no text
pub record Converts {A : Type 0} (class : Class) (from to : Document → List ℕ) (input : List ℕ) (outcome : Result (String A) ReadError) : Type 0 where
  pub ok : IfOk outcome (λ text. IsConverted class from to input (string_bytes text))
  pub not_text : IsErrOf outcome NotText → NoDocumentPrints class from input

-- what a conversion to a writer does
pub record ConvertsTo {W E : Type 0} (seen : Seen W) (class : Class) (from to : Document → List ℕ) (input : List ℕ) (old : W) (outcome : Result (⊤) (ScanError E)) (new : W) : Type 0 where
  -- the outcome is `Ok` only if the input is a text, and `NotText` only if it is none
  pub ok : IsOk outcome → (text : List ℕ) × IsConverted class from to input text
  pub not_text : IsErrOf outcome errors.NotText → NoDocumentPrints class from input
  -- the other text is written as a piece is: all of it, or a prefix if the writer failed
  pub writes : (text : List ℕ) → IsConverted class from to input text → Writes seen old text (is_ok outcome) new
  -- some text was written so, also if the input is no text
  pub lawful : (text : List ℕ) × (whole : Bool) × Writes seen old text whole new

-- what a conversion into a caller's buffer does
pub record ConvertsInto {E : Type 0} (class : Class) (from to : Document → List ℕ) (input old : List ℕ) (outcome : Result ℕ (ScanError E)) (new : List ℕ) : Type 0 where
  -- the outcome is `Ok` only if the input is a text, and `NotText` only if it is none
  pub ok : IsOk outcome → (text : List ℕ) × IsConverted class from to input text
  pub not_text : IsErrOf outcome errors.NotText → NoDocumentPrints class from input
  -- the other text is at the buffer's front: all of it if it fits, or a prefix
  pub fronts : (text : List ℕ) → IsConverted class from to input text → Fronts old text outcome new
  -- the buffer keeps its length, also if the input is no text
  pub same_length : length new ≡ length old
