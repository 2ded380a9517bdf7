use Rattle.std.proofs.Common.{sym, ap, ◌∙◌, length, take, encode_utf8, length-append, arith}
use Rattle.std.proofs.Math.Seq.{take-append_seam}
use Rattle.ufmt_scan.proofs.Characters.{length-led}
use Rattle.ufmt_parse_leaves.proofs.CharacterFronts.{led_front}
use Rattle.ufmt_parse_leaves.proofs.characters.split_utf8.Goals as goal

pub returns-in_err-lead : goal.returns-in_err-lead
returns-in_err-lead c = rw c.from_residual.ensures (λ d rest scalar is.
    omega (arith, c.in_err-lead.ensures.item.3, ap length is, length-append (encode_utf8 d) rest, length-led d))

pub returns-in_err-front : goal.returns-in_err-front
returns-in_err-front c = rw c.from_residual-in_err-front.ensures (λ d rest scalar is.
    omega (
      arith,
      c.in_err-front.ensures.cases,
      c.character_len.ensures,
      ap length is,
      length-append (encode_utf8 d) rest,
      led_front c.args.input.now d rest c.in_ok-lead.field-0.now is c.in_ok-lead.ensures.item.1,
    ))

pub returns-in-None : goal.returns-in-None
returns-in-None c = λ d rest scalar is.
    let far = c.character_len.ensures ∙ sym (led_front c.args.input.now d rest c.in_ok-lead.field-0.now is c.in_ok-lead.ensures.item.1) in
    c.in-None.ensures d scalar (c.in_ok-front.ensures.cases.1 ∙ ap (λ n. take n c.args.input.now) far ∙ ap (take (length (encode_utf8 d))) is
    ∙ take-append_seam (encode_utf8 d) rest)
