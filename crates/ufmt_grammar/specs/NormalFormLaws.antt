-- The promises about normal forms.
use Rattle.std.specs.Prelude.{◌≡◌}
use Rattle.ufmt_core.specs.Document.{Document}
use Rattle.ufmt_core.specs.Layout.{layout}
use Rattle.ufmt_core.specs.declared.layout.Setting.{Setting}
use Rattle.ufmt_grammar.specs.Token.{Class, IsDocument, normal}

-- a normal form is its own normal form
abbrev pub NormalFormsAreNormal : Type 0
NormalFormsAreNormal = (d : Document) → normal (normal d) ≡ normal d

-- a document and its normal form have the same text, in either mode and at any depth
abbrev pub NormalFormsKeepTexts : Type 0
NormalFormsKeepTexts = (s : Setting) (d : Document) → layout s (normal d) ≡ layout s d

-- the normal form of a document of a class is one of the class
abbrev pub NormalFormsKeepClasses : Type 0
NormalFormsKeepClasses = (class : Class) (d : Document) → IsDocument class d → IsDocument class (normal d)
