use Rattle.std.proofs.Common.{◌∙◌, ap}
use Rattle.std.proofs.lemmas.Bool.Decides.{Decides-eqb}
use Rattle.std.proofs.lemmas.Slice.Eq.{strip_prefix_is}
use Rattle.ufmt_grammar.specs.Reading.{strip}
use Rattle.ufmt_scan.proofs.Strips.{stripped}
use Rattle.ufmt_scan.proofs.strip.strip_piece.Goals as goal

pub returns-in_default : goal.returns-in_default
returns-in_default c =
    stripped c.as_bytes.result.now c.args.input.now c.strip_prefix.result (strip_prefix_is Decides-eqb c.args.input.now c.as_bytes.result.now
    c.strip_prefix.result c.strip_prefix.ensures.cases) ∙ ap (λ p. strip p c.args.input.now) c.as_bytes.ensures.value
