-- A text can be read in one way only, since reading it has one result.
use Rattle.std.proofs.Common.{◌≡◌, ◌↔◌, sym, ap, ◌∙◌, ℕ, ◌-◌, ◌≤◌, List, [], ◌++◌, arith}
use Rattle.ufmt_core.specs.Document.{Document, nest}
use Rattle.ufmt_core.specs.Layout.{setting, layout}
use Rattle.ufmt_core.specs.declared.layout.Mode.TheVariants.{Plain, Pretty}
use Rattle.ufmt_core.specs.declared.layout.Setting.{Setting}
use Rattle.ufmt_grammar.specs.Token.{Class, IsBuilt, IsDocument, normal, MayFollow}
use Rattle.ufmt_grammar.specs.Reading.{read}
use Rattle.ufmt_grammar.specs.ReadingLaws.{PlainIsUnambiguous, PrettyIsUnambiguous, PlainTextDetermines, PrettyTextDetermines, TextsAgree}
use Rattle.ufmt_grammar.proofs.Parsing.{same_parts}
use Rattle.ufmt_grammar.proofs.ClassLeaves.{nothing_follows}
use Rattle.ufmt_grammar.proofs.FramesClose.{Fits}
use Rattle.ufmt_grammar.proofs.ReadingComplete.{read_complete}
use Rattle.ufmt_grammar.proofs.NormalForms.{layout-normal}

module _ (class : Class) where
  -- where two documents fit, equal texts mean equal normal forms and equal rests
  reads_one_way : (s : Setting) (n : ℕ) → Fits s n → (d e : Document) (u v : List ℕ) → IsBuilt class d → IsBuilt class e → nest d ≤ n → nest e ≤ n
      → MayFollow class u → MayFollow class v → layout s d ++ u ≡ layout s e ++ v → (normal d ≡ normal e) × (u ≡ v)
  reads_one_way s n fits d e u v hd he nd ne hu hv same =
      same_parts {A = Document} {B = List ℕ} (normal d, u) (normal e, v)
      (sym (read_complete class n s d u hd nd fits hu) ∙ ap (read class s n) same ∙ read_complete class n s e v he ne fits hv)

  pub plain_reads_one_way : PlainIsUnambiguous class
  plain_reads_one_way = λ d e u v hd he hu hv same. reads_one_way (setting Plain 0) 255 tt d e u v hd.0 he.0 hd.1 he.1 hu hv same

  pub pretty_reads_one_way : PrettyIsUnambiguous class
  pretty_reads_one_way = λ k d e u v hd he nd ne hu hv same. reads_one_way (setting Pretty k) (255 - k) (omega (arith, nd)) d e u v hd.0 he.0
      (omega (arith, nd)) (omega (arith, ne)) hu hv same

  -- where 255 nested blocks fit, two texts are equal exactly if the normal forms are equal
  text_determines : (s : Setting) → Fits s 255 → (d e : Document) → IsDocument class d → IsDocument class e → (layout s d ≡ layout s e) ↔ (normal d ≡ normal e)
  text_determines s fits d e hd he = (
    λ same. (reads_one_way s 255 fits d e [] [] hd.0 he.0 hd.1 he.1 (nothing_follows class) (nothing_follows class) (ap (λ t. t ++ []) same)).0,
    λ same. sym (layout-normal s d) ∙ ap (layout s) same ∙ layout-normal s e,
  )

  pub plain_text_determines : PlainTextDetermines class
  plain_text_determines = text_determines (setting Plain 0) tt

  pub pretty_text_determines : PrettyTextDetermines class
  pretty_text_determines = text_determines (setting Pretty 0) (omega arith)

  pub texts_agree : TextsAgree class
  texts_agree = λ d e hd he. (
    λ same. (pretty_text_determines d e hd he).1 ((plain_text_determines d e hd he).0 same),
    λ same. (plain_text_determines d e hd he).1 ((pretty_text_determines d e hd he).0 same),
  )
