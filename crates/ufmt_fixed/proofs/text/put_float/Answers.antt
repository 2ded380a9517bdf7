use Rattle.core.specs.Prelude.{◌*◌, ◌^◌, ◌++◌, drop, replicate}
use mathlib.Core.Path.{sym, subst, ap, ◌∙◌}
use mathlib.Core.List.{append_assoc, append-nil}
use lib.Pow.{pow_pos}
use Rattle.core.specs.Fmt.{sign_text}
use Rattle.core.specs.Str.{IsAscii}
use Rattle.std.proofs.lemmas.Str.{IsAscii-append}
use Rattle.ufmt_float.proofs.Puts.{put_before}
use Rattle.ufmt_fixed.specs.Text.{fixed_text}
use Rattle.ufmt_fixed.proofs.Puts.{put_last}
use Rattle.ufmt_fixed.proofs.Texts.{IsAscii-sign}
use Rattle.ufmt_fixed.proofs.Values.{text_of_value}
use Rattle.ufmt_fixed.proofs.text.put_float.Goals as goal

pub returns-in-NotANumber-clause-text : goal.returns-in-NotANumber-clause-text
returns-in-NotANumber-clause-text g c =
    append-nil _ ∙ put_last _ _ _ 1385 _ c.requires c.put_word.ensures ∙ sym (ap (fixed_text c.args.decimals) c.in-NotANumber.ensures)

pub returns-in-Infinite-clause-text : goal.returns-in-Infinite-clause-text
returns-in-Infinite-clause-text g c =
    let whole = put_before _ _ _ _ _ _ _ _ c.put_word-end.ensures c.put_sign.ensures in
    append-nil _ ∙ put_last _ _ _ 1385 _ c.requires whole ∙ sym (ap (fixed_text c.args.decimals) c.in-Infinite.ensures)

pub returns-in-Finite-clause-text : goal.returns-in-Finite-clause-text
returns-in-Finite-clause-text g c =
    let f = c.in-Finite in
    let number = c.put_finite-end in
    let sign = sign_text f.negative in
    let digits = drop number.result.0 number.new.buffer in
    let zeros = replicate number.result.1 48 in
    ap (λ text. text ++ zeros) c.put_sign-in-Finite.ensures.written ∙ append_assoc sign digits zeros ∙ ap (λ text. sign ++ text) number.ensures.text
    ∙ sym (text_of_value (g.F.Float.value c.args.x) f.negative (f.significand * 2 ^ f.twos) (2 ^ f.halves) c.args.decimals (pow_pos f.halves) f.ensures.0)

pub returns-in-Finite-clause-ascii : goal.returns-in-Finite-clause-ascii
returns-in-Finite-clause-ascii g c =
    let number = c.put_finite-end in
    subst IsAscii (sym c.put_sign-in-Finite.ensures.written) (IsAscii-append (sign_text c.in-Finite.negative) _ (IsAscii-sign c.in-Finite.negative) number.ensures.ascii)
