-- What is read from a text is the normal form of each document with that text.
use Rattle.std.proofs.Common.{◌≡◌, ◌∙◌, refl, sym, List, ℕ, Result, Ok, Err, IfOk}
use Rattle.ufmt.specs.Document.{Document}
use Rattle.ufmt.specs.Layout.{layout, setting}
use Rattle.ufmt_core.specs.declared.layout.Mode.{Mode}
use Rattle.ufmt_core.specs.declared.layout.Mode.TheVariants.{Plain, Pretty}
use Rattle.ufmt_core.specs.declared.layout.Setting.{Setting}
use Rattle.ufmt_grammar.specs.declared.class.Class.{Class}
use Rattle.ufmt.specs.Token.{IsDocument, normal}
use Rattle.ufmt_grammar.proofs.NormalForms.{IsDocument-normal, layout-normal, normal-normal}
use Rattle.ufmt_grammar.proofs.OneWay.{plain_text_determines, pretty_text_determines}
use Rattle.ufmt_scan.specs.declared.error.ReadError.{ReadError}
use Rattle.ufmt_scan.specs.Texts.{IsConverted, IsNormalForm, other_mode}

-- the other mode of the other mode is the mode itself
pub other_other : (mode : Mode) → other_mode (other_mode mode) ≡ mode
other_other Plain = refl
other_other Pretty = refl

module _ (class : Class) where
  -- in each mode equal texts have equal normal forms
  determines : (mode : Mode) (d e : Document) → IsDocument class d → IsDocument class e → layout (setting mode 0) d ≡ layout (setting mode 0) e
      → normal d ≡ normal e
  determines Plain d e hd he same = (plain_text_determines class d e hd he).0 same
  determines Pretty d e hd he same = (pretty_text_determines class d e hd he).0 same

  -- what was read from a text is the normal form of each document with that text
  pub form_is : (mode : Mode) (input : List ℕ) (e d : Document) → IsNormalForm class (layout (setting mode 0)) input e → IsDocument class d
      → layout (setting mode 0) d ≡ input → e ≡ normal d
  form_is mode input e d read one same = sym read.1 ∙ determines mode e d read.0 one (read.2 ∙ sym same)

  -- what is read from a document's text is its normal form
  pub read_again : {X : Type 0} (view : X → Document) (mode : Mode) (outcome : Result X ReadError) (input : List ℕ) (d : Document) → IsDocument class d → input ≡ layout (setting mode 0) d
      → IfOk outcome (λ doc. IsNormalForm class (layout (setting mode 0)) input (view doc)) → IfOk outcome (λ doc. view doc ≡ normal d)
  read_again view mode (Ok doc) input d one is read = form_is mode input (view doc) d read one (sym is)
  read_again view mode (Err e) input d one is read = tt

  -- a text that was converted is that of a document in normal form
  pub converted_form : (s : Setting) (to : Document → List ℕ) (input text : List ℕ) → IsConverted class (layout s) to input text
      → (d : Document) × IsNormalForm class (layout s) input d
  converted_form s to input text is =
      let some = is.some in
      (normal some.0, (IsDocument-normal class some.0 some.1, normal-normal some.0, layout-normal s some.0 ∙ some.2))
