use Rattle.std.proofs.Common.{◌≡◌, ◌∙◌, ap, Option, Some, None, Ok, Err, Result}
use Rattle.std.specs.Prelude.{option_map}
use Rattle.std.specs.Option.{ok_or}
use Rattle.ufmt.specs.Document.{Document}
use Rattle.ufmt_doc.specs.Doc.{tree_document}
use Rattle.ufmt_doc.specs.Private.Growing.{Growing, grown}
use Rattle.ufmt_doc.proofs.GrowingDocuments.{whole_is}
use Rattle.ufmt_doc.proofs.reader.read_text.Goals as goal
use Rattle.ufmt_scan.specs.Scan.{events_of}
use Rattle.ufmt_scan.specs.declared.error.ReadError.{ReadError}
use Rattle.ufmt_scan.specs.declared.error.ReadError.TheVariants.{NotText}

-- the result is the whole document, if it has ended
document_is : {X : Type 0} (view : X → Document) (outcome : Result X ReadError) (whole : Option X) (d : Document) → option_map view whole ≡ Some d
    → outcome ≡ ok_or whole NotText → (doc : X) × (outcome ≡ Ok doc) × (view doc ≡ d)
document_is view outcome None d is h = absurd (cc)
document_is view outcome (Some doc) d is h = (doc, h, cc)

ok_not_err : {X E : Type 0} (x : X) (e : E) → ◌≡◌ {A = Result X E} (Ok x) (Err e) → ⊥
ok_not_err x e is = absurd (cc)

pub returns : goal.returns
returns g c =
    let scanned = c.in_ok-scan.ensures in
    let dots = g.N.ReadName.says_dots in
    let whole = whole_is c.args.class dots c.requires scanned.0 _ scanned.1.0 scanned.1.1
    (scanned.2 ∙ ap (λ (s : Growing). grown dots s (events_of scanned.0)) c.new-sink.ensures) in
    let outcome = document_is (tree_document g.N.StructName.shown) c.ok_or.result c.into_document.result scanned.0
    (c.into_document.ensures ∙ ap (λ (g : Growing). g.0) whole) c.ok_or.ensures.value in
    record { ok = rw (outcome.1, outcome.2) scanned.1; not_text = rw outcome.1 (λ is. absurd (ok_not_err _ _ is)) }
