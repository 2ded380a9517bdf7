use Rattle.std.proofs.Common.{◌≡◌, ◌%◌, ap, ◌∙◌, arith, encode_utf8}
use Rattle.std.proofs.lemmas.List.{replicate_more}
use Rattle.std.proofs.lemmas.Str.{encode_ascii}
use Rattle.ufmt_core.proofs.Writing.{Prints-then, Prints-fails, Prints-err}
use Rattle.ufmt.proofs.Padding.{replicate-front}
use Rattle.ufmt.proofs.hex.HexOptions.write_padding.Goals as goal

pub returns-in_err-write_char : goal.returns-in_err-write_char
returns-in_err-write_char g c =
    let pad = c.args.self.now.pad_char in
    let ascii : pad % 128 ≡ pad = omega (arith, c.requires) in
    let one = ap encode_utf8 (c.from-pad.ensures ∙ ascii) ∙ encode_ascii pad c.requires in
    rw (replicate-front c.loop-pad._pad c.args.count pad (omega arith))
    (Prints-err _ c.from_residual.ensures.0 (Prints-fails _ (Prints-then c.loop-pad.invariant (rw one at c.in_err-write_char.ensures.prints))))

pub loop-pad-preserved : goal.loop-pad-preserved
loop-pad-preserved g c =
    let pad = c.args.self.now.pad_char in
    let ascii : pad % 128 ≡ pad = omega (arith, c.requires) in
    let one = ap encode_utf8 (c.from-pad.ensures ∙ ascii) ∙ encode_ascii pad c.requires in
    rw (← replicate_more) (Prints-then c.loop-pad.invariant (rw one at c.in_ok-write_char.ensures.prints))
