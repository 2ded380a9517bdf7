use Rattle.std.proofs.Common.{◌++◌, ◌∙◌, ap, sym}
use Rattle.ufmt_core.specs.Quoted.{escaped_bytes}
use Rattle.ufmt_parse_leaves.proofs.PlainFronts.{plain_itself}
use Rattle.ufmt_parse_leaves.proofs.texts.read_ascii.Goals as goal

pub returns : goal.returns
returns g c =
    let end = c.split_plain.result.1.now in
    ap (λ t. escaped_bytes 34 t ++ end) c.in_ok-copied.ensures ∙ ap (λ t. t ++ end) (plain_itself c.split_plain.result.0.now c.split_plain.ensures.plain) ∙ sym c.split_plain.ensures.whole
