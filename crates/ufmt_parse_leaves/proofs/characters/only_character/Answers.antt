use Rattle.std.proofs.Common.{sym, ap, subst, ◌∙◌, length, encode_utf8, [], append-nil, arith}
use Rattle.std.specs.Char.{len_utf8}
use Rattle.std.specs.Str.{IsUtf8}
use Rattle.std.proofs.lemmas.Str.{IsUtf8-encode, encode_same, length-encode}
use Rattle.ufmt_scan.proofs.Characters.{length-led}
use Rattle.ufmt_parse_leaves.proofs.characters.only_character.Goals as goal

pub returns-in-Err : goal.returns-in-Err
returns-in-Err c = λ d scalar is. c.in-Err.ensures.cases.0 (subst IsUtf8 (sym is) (IsUtf8-encode d scalar))

pub returns-else-len_utf8-bytes : goal.returns-else-len_utf8-bytes
returns-else-len_utf8-bytes c = λ d scalar is.
    let same = encode_same d c.in-Some.character [] c.next.new.self.rest.now
    (append-nil (encode_utf8 d) ∙ sym is ∙ sym c.in-Ok.ensures.cases.0 ∙ sym c.chars.ensures.rest ∙ c.in-Some.ensures.steps.0) in
    c.if-len_utf8-bytes.false (c.len_utf8.ensures.value ∙ ap len_utf8 (sym same.0) ∙ sym (length-encode d) ∙ ap length (sym is))

pub returns-in-None : goal.returns-in-None
returns-in-None c = λ d scalar is.
    omega (arith, c.in-None.ensures.steps.0.0, ap length c.chars.ensures.rest, ap length c.in-Ok.ensures.cases.0, ap length is, length-led d)
