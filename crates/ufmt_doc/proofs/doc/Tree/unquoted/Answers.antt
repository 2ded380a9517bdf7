use Rattle.std.proofs.Common.{ap, rules, string_bytes, String, Global, Result, Ok, Err, IfOk, subst, sym, ◌∙◌}
use Rattle.std.specs.Prelude.{IsOk}
use Rattle.std.specs.Result.{result_ok}
use Rattle.ufmt.specs.Document.{Document, leaf}
use Rattle.ufmt.specs.Token.{IsSymbol}
use Rattle.ufmt_doc.specs.Unquoted.{IsInQuotes, Unquotes}
use Rattle.ufmt_doc.proofs.Trees.{tree_document-Leaf}
use Rattle.ufmt_doc.proofs.Unquoted.{spelled_text}
use Rattle.ufmt_doc.proofs.doc.Tree.unquoted.Goals as goal

answered : {E : Type 0} {P : String Global → Type 0} (d : Document) (r : Result (String Global) E) → ((s : String Global) → P s → IsInQuotes d (string_bytes s))
    → IfOk r P → IsOk r → Unquotes d (result_ok r)
answered d (Ok s) is h some = is s h
answered d (Err e) is h some = absurd (cc)

pub returns : goal.returns
returns g c =
    let text = c.in-Leaf.text in
    let symbol = subst IsSymbol c.deref.ensures (c.is_symbol.ensures.0 c.if-not-is_symbol.false) in
    let spelled = spelled_text (string_bytes text) c.in-Some.inside.now c.in-Some.first.now (sym c.as_bytes.ensures.value ∙ c.in-Some.ensures.cases.0) symbol
    (search (rules, c.if-quote-ne39.either)) c.in_ok-decoded_bytes.field-0.items c.in_ok-decoded_bytes.ensures in
    rw (c.in-Leaf.is, tree_document-Leaf g.N.StructName.shown text, c.ok.ensures.value)
    (answered (leaf (string_bytes text)) c.from_utf8.result (λ s is. spelled.1 (string_bytes s) (ap (λ v. v.items) is)) c.from_utf8.ensures.ok (c.from_utf8.ensures.succeeds spelled.0))
