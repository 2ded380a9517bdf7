use Rattle.std.proofs.Common.{◌≡◌, ◌∙◌, ◌-◌, ap, arith, drop, replicate}
use Rattle.std.proofs.lemmas.List.{drop-replicate}
use Rattle.std.proofs.lemmas.Str.{IsAscii-drop}
use Rattle.ufmt.proofs.AsciiDumps.{IsAscii-replicate}
use Rattle.ufmt.proofs.pad.part.Goals as goal

pub text_from-requires-clause-ascii : goal.text_from-requires-clause-ascii
text_from-requires-clause-ascii g c =
    rw c.requires.copies (IsAscii-drop (replicate 64 g.row.BYTE) (64 - c.args.count) (IsAscii-replicate 64 g.row.BYTE c.requires.ascii))

pub returns : goal.returns
returns g c =
    let whole : 64 - (64 - c.args.count) ≡ c.args.count = omega arith in
    c.text_from.ensures ∙ ap (λ t. drop (64 - c.args.count) t) c.requires.copies ∙ drop-replicate (64 - c.args.count) 64 g.row.BYTE
    ∙ ap (λ n. replicate n g.row.BYTE) whole
