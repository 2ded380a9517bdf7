-- A value that is found, and its text in the other mode.
use Rattle.std.proofs.Common.{◌≡◌, ◌∙◌, refl, ap, sym, ℕ, List, ◌++◌, true, Option, Some, None, option_map, Ok, Err, is_some, ◌≤◌, length, length-append, length-drop, take, drop, arith}
use Rattle.std.proofs.lemmas.Bool.{false≢true}
use Rattle.std.proofs.Math.Seq.{take-append_seam}
use Rattle.std.specs.Prelude.{⊤}
use Rattle.ufmt_grammar.proofs.NormalForms.{layout-normal}
use Rattle.ufmt_grammar.proofs.ReadingSound.{read_sound, Found}
use Rattle.ufmt_grammar.proofs.ReadingWhole.{reads_each_text, reads_only_texts}
use Rattle.ufmt.specs.Document.{Document}
use Rattle.ufmt.specs.Layout.{layout, setting}
use Rattle.ufmt_grammar.specs.declared.class.Class.TheVariants.{Debug}
use Rattle.ufmt.specs.Reading.{read_text}
use Rattle.ufmt.specs.Token.{IsDebugDocument, normal}
use Rattle.ufmt_core.specs.declared.layout.Mode.{Mode}
use Rattle.ufmt_lines.specs.Private.Converted.{converted}
use Rattle.ufmt_lines.specs.Private.GroupOutput.{output_bytes, output_seen}
use Rattle.ufmt_lines.specs.declared.run.output.GroupOutput.{GroupOutput}
use Rattle.ufmt_scan.specs.Fronts.{read_front}
use Rattle.ufmt_scan.specs.Texts.{ConvertsTo, IsConverted, other_mode}
use Rattle.ufmt_scan.specs.declared.scan.event.ScanError.TheVariants.{NotText}

-- the normal form is read from the text
form_is_read : (mode : Mode) (text : List ℕ) (d : Document) → IsDebugDocument d → layout (setting mode 0) d ≡ text → read_text Debug mode text ≡ Some (normal d)
form_is_read mode text d token is = ap (read_text Debug mode) (sym is) ∙ reads_each_text Debug mode d token

converted_from : (mode : Mode) (text : List ℕ) (o : Option Document) (other : List ℕ) → read_text Debug (other_mode mode) text ≡ o → option_map (layout (setting mode 0)) o ≡ Some other
    → IsConverted Debug (layout (setting (other_mode mode) 0)) (layout (setting mode 0)) text other
converted_from mode text None other is h = absurd (cc)
converted_from mode text (Some d) other is h =
    let form = reads_only_texts Debug (other_mode mode) text d is in
    let same : layout (setting mode 0) d ≡ other = cc in
    record {
      some = (d, form.0, form.2);
      each = λ e token is_text.
          let read = form_is_read (other_mode mode) text e token is_text in
          let one : normal e ≡ d = cc in
          sym (layout-normal (setting mode 0) e) ∙ ap (layout (setting mode 0)) one ∙ same;
    }

-- what `converted` is, by conversions
pub is_converted : (mode : Mode) (text other : List ℕ) → converted mode text ≡ Some other
    → IsConverted Debug (layout (setting (other_mode mode) 0)) (layout (setting mode 0)) text other
unfolding converted
is_converted mode text other h = converted_from mode text _ other refl h

pub some_from : {A : Type 0} (o : Option A) → is_some o ≡ true → (x : A) × (o ≡ Some x)
some_from None h = absurd (false≢true h)
some_from (Some x) h = (x, refl)

-- a text that can be converted
pub is_some_converted : (mode : Mode) (text : List ℕ) → is_some (converted mode text) ≡ true → (other : List ℕ) × (converted mode text ≡ Some other)
is_some_converted mode text h = some_from (converted mode text) h

-- what a conversion did with an output, if there is a text to convert
module _ (mode : Mode) (text : List ℕ) (is_text : is_some (converted mode text) ≡ true) (old new : GroupOutput) where
  pub output_grows : {E : Type 0} {done : ⊤} → ConvertsTo {E = E} output_seen Debug (layout (setting (other_mode mode) 0)) (layout (setting mode 0)) text old (Ok done) new
      → (other : List ℕ) × (converted mode text ≡ Some other) × (output_bytes new ≡ output_bytes old ++ other)
  output_grows h =
      let found = is_some_converted mode text is_text in
      (found.0, found.1, (h.writes found.0 (is_converted mode text found.0 found.1)).appended tt)

  pub always_text : {E : Type 0} → ConvertsTo {E = E} output_seen Debug (layout (setting (other_mode mode) 0)) (layout (setting mode 0)) text old (Err NotText) new → ⊥
  always_text h =
      let found = is_some_converted mode text is_text in
      let is = is_converted mode text found.0 found.1 in
      h.not_text refl is.some.0 is.some.1 is.some.2

-- a document that is read from a front has the bytes before what is left as its text
module _ (to : Mode) (text : List ℕ) (d : Document) (size : ℕ) (within : size ≤ length text) (is : read_front Debug (other_mode to) text ≡ Some (d, drop size text)) where
  found : Found Debug (setting (other_mode to) 0) 255 text d (drop size text)
  found = read_sound Debug 255 (setting (other_mode to) 0) text d (drop size text) is

  front_is : take size text ≡ layout (setting (other_mode to) 0) d
  front_is =
      let laid = layout (setting (other_mode to) 0) d in
      let parts = length-append laid (drop size text) in
      let left = length-drop size text in
      let whole = ap length found.whole in
      let same : size ≡ length laid = omega (arith, parts, left, whole, within) in
      ap (λ n. take n text) same ∙ ap (take (length laid)) found.whole ∙ take-append_seam laid (drop size text)

  -- and its other text is what these bytes are converted to
  pub front_converted : converted to (take size text) ≡ Some (layout (setting to 0) d)
  unfolding converted
  front_converted =
      ap (λ t. option_map (layout (setting to 0)) (read_text Debug (other_mode to) t)) front_is
      ∙ ap (option_map (layout (setting to 0))) (reads_each_text Debug (other_mode to) d (found.tokens, found.nests) ∙ ap Some found.is_normal)

pub same_text : (a b : List ℕ) → Some a ≡ Some b → a ≡ b
same_text a b h = cc
