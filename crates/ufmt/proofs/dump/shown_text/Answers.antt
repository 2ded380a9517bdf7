use Rattle.std.proofs.Common.{◌≡◌, ◌∙◌, length, map, sym, take, ap, arith}
use Rattle.std.proofs.lemmas.List.{take_all}
use Rattle.ufmt.specs.Dump.{shown_byte}
use Rattle.ufmt.proofs.AsciiDumps.{IsAscii-shown}
use Rattle.ufmt.proofs.dump.shown_text.Goals as goal

pub text_from-requires-clause-ascii : goal.text_from-requires-clause-ascii
text_from-requires-clause-ascii c =
    let bytes = c.args.bytes.now in
    let place : c.loop-place.place ≡ length bytes = omega arith in
    let whole : take (length bytes) c.loop-place.buffer ≡ map shown_byte bytes =
    ap (λ n. take n c.loop-place.buffer) (sym place) ∙ c.loop-place.invariant ∙ ap (map shown_byte) (take_all c.loop-place.place bytes (omega arith)) in
    rw whole (IsAscii-shown bytes)
