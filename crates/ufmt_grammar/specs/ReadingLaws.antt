-- The promises about reading: exactly the texts of the documents of a class are read, each in one way, as the normal form.
use Rattle.std.specs.Prelude.{◌≡◌, ◌≢◌, List, ℕ, Some, None, ◌↔◌, ◌+◌, ◌≤◌, ◌++◌}
use Rattle.ufmt_core.specs.Document.{Document, nest}
use Rattle.ufmt_core.specs.Layout.{setting, layout, plain_text, pretty_text}
use Rattle.ufmt_core.specs.declared.layout.Mode.{Mode}
use Rattle.ufmt_core.specs.declared.layout.Mode.TheVariants.{Pretty}
use Rattle.ufmt_grammar.specs.Token.{Class, Token, Debug, IsDocument, normal, MayFollow}
use Rattle.ufmt_grammar.specs.Reading.{read_text}

module _ (class : Class) where
  -- a document that is read is one of the class in normal form, and it has the text
  abbrev pub ReadsOnlyTexts : Type 0
  ReadsOnlyTexts = (mode : Mode) (t : List ℕ) (d : Document) → read_text class mode t ≡ Some d → IsDocument class d × (normal d ≡ d)
      × (layout (setting mode 0) d ≡ t)

  -- the text of a document of the class is read as the document's normal form
  abbrev pub ReadsEachText : Type 0
  ReadsEachText = (mode : Mode) (d : Document) → IsDocument class d → read_text class mode (layout (setting mode 0) d) ≡ Some (normal d)

  -- if nothing is read, no document of the class has the text
  abbrev pub RefusesOnlyUnprinted : Type 0
  RefusesOnlyUnprinted = (mode : Mode) (t : List ℕ) → read_text class mode t ≡ None → (d : Document) → IsDocument class d → layout (setting mode 0) d ≢ t

  -- if the plain texts of two documents, each with a text after it that may follow, are equal, so are the normal forms and the texts after them
  abbrev pub PlainIsUnambiguous : Type 0
  PlainIsUnambiguous = (d e : Document) (u v : List ℕ) → IsDocument class d → IsDocument class e → MayFollow class u → MayFollow class v
      → plain_text d ++ u ≡ plain_text e ++ v → (normal d ≡ normal e) × (u ≡ v)

  -- the same holds of pretty texts at any depth from which blocks with entries reach depth 255 at most
  abbrev pub PrettyIsUnambiguous : Type 0
  PrettyIsUnambiguous = (k : ℕ) (d e : Document) (u v : List ℕ) → IsDocument class d → IsDocument class e → nest d + k ≤ 255 → nest e + k ≤ 255
      → MayFollow class u → MayFollow class v → layout (setting Pretty k) d ++ u ≡ layout (setting Pretty k) e ++ v → (normal d ≡ normal e) × (u ≡ v)

  -- two documents of the class have the same plain text exactly if they have the same normal form
  abbrev pub PlainTextDetermines : Type 0
  PlainTextDetermines = (d e : Document) → IsDocument class d → IsDocument class e → (plain_text d ≡ plain_text e) ↔ (normal d ≡ normal e)

  -- two documents of the class have the same pretty text exactly if they have the same normal form
  abbrev pub PrettyTextDetermines : Type 0
  PrettyTextDetermines = (d e : Document) → IsDocument class d → IsDocument class e → (pretty_text d ≡ pretty_text e) ↔ (normal d ≡ normal e)

  -- two documents of the class have the same plain text exactly if they have the same pretty text
  abbrev pub TextsAgree : Type 0
  TextsAgree = (d e : Document) → IsDocument class d → IsDocument class e → (plain_text d ≡ plain_text e) ↔ (pretty_text d ≡ pretty_text e)

-- each token document is a debug document
abbrev pub TokensAreDebug : Type 0
TokensAreDebug = (d : Document) → IsDocument Token d → IsDocument Debug d
