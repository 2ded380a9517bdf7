use Rattle.std.proofs.Common.{◌++◌, ◌∷◌, ap, subst, sym, ◌∙◌, string_bytes}
use Rattle.std.proofs.lemmas.Bool.{false≢true}
use Rattle.std.proofs.lemmas.Str.{IsUtf8-string_bytes}
use Rattle.ufmt_core.specs.Quoted.{escaped_bytes}
use Rattle.ufmt_parse_leaves.specs.Spelling.{NeverCloses}
use Rattle.ufmt_parser.specs.Taking.{open_blocks, rest}
use Rattle.ufmt_parse_leaves.proofs.QuotedTaken.{never_closed, no_utf8, text_taken}
use Rattle.ufmt_parse_leaves.proofs.SpelledTexts.{closed_after}
use Rattle.ufmt_parse_leaves.proofs.texts.parse_text.Goals as goal

-- all of the text is in ASCII
pub returns-in-Some-strip_byte-clause-takes : goal.returns-in-Some-strip_byte-clause-takes
returns-in-Some-strip_byte-clause-takes g c =
    rw c.skip_to.ensures.rest (text_taken (open_blocks c.args.parser.now) (rest c.args.parser.now) _ c.in-Some.inside.now (rw c.rest.ensures.rest at c.in-Some.ensures)
    (string_bytes c.in-Ok.text) (IsUtf8-string_bytes c.in-Ok.text) c.rest.ensures.counted
    (closed_after (string_bytes c.in-Ok.text) c.in-Some.inside.now c.in-Ok.end.now c.in-Some-strip_byte.after.now c.in-Ok.ensures c.in-Some-strip_byte.ensures))

pub returns-in-Ok-None-clause-takes : goal.returns-in-Ok-None-clause-takes
returns-in-Ok-None-clause-takes g c =
    let read = ap (λ v. escaped_bytes 34 v.items ++ c.in-Ok.end.now) c.into_bytes-bytes.ensures.value ∙ c.in-Ok.ensures in
    rw c.refuse-in-Ok-None.ensures.fault (never_closed (open_blocks c.args.parser.now) (rest c.args.parser.now) _ c.in-Some.inside.now (rw c.rest.ensures.rest at c.in-Some.ensures)
    (subst NeverCloses read (rw c.in-Ok-None.field-0-is at c.in-Ok-None.ensures)))

pub returns-in-Ok-from_utf8-clause-takes : goal.returns-in-Ok-from_utf8-clause-takes
returns-in-Ok-from_utf8-clause-takes g c =
    let read = ap (λ v. escaped_bytes 34 v.items ++ c.in-Ok.end.now) c.into_bytes-bytes.ensures.value ∙ c.in-Ok.ensures in
    let closes = sym read ∙ (rw c.in-Ok-Some.field-0-is at c.in-Ok-Some.ensures) in
    rw c.skip_to-in-Ok-from_utf8.ensures.rest (text_taken (open_blocks c.args.parser.now) (rest c.args.parser.now) _ c.in-Some.inside.now (rw c.rest.ensures.rest at c.in-Some.ensures)
    (string_bytes c.in-Ok-from_utf8.text) (IsUtf8-string_bytes c.in-Ok-from_utf8.text) c.rest.ensures.counted
    (closes ∙ ap (λ v. escaped_bytes 34 v.items ++ (34 ∷ c.in-Ok-Some.after.now)) (sym c.in-Ok-from_utf8.ensures.ok)))

pub returns-clause-takes : goal.returns-clause-takes
returns-clause-takes g c =
    let read = ap (λ v. escaped_bytes 34 v.items ++ c.in-Ok.end.now) c.into_bytes-bytes.ensures.value ∙ c.in-Ok.ensures in
    let closes = sym read ∙ (rw c.in-Ok-Some.field-0-is at c.in-Ok-Some.ensures) in
    rw c.refuse-in-Err-from_utf8.ensures.fault (no_utf8 (open_blocks c.args.parser.now) (rest c.args.parser.now) _ c.in-Some.inside.now (rw c.rest.ensures.rest at c.in-Some.ensures)
    c.read_bytes.new.bytes.items c.in-Ok-Some.after.now closes (λ utf8. false≢true (c.in-Err-from_utf8.ensures.succeeds utf8)))
