use Rattle.std.proofs.lemmas.Bool.Decides.{Decides-eqb}
use Rattle.std.proofs.lemmas.Slice.Eq.{strip_prefix_is}
use Rattle.ufmt_scan.proofs.Strips.{stripped}
use Rattle.ufmt_parser.proofs.strip.strip_few.Goals as goal

pub returns-in_default : goal.returns-in_default
returns-in_default c =
    stripped c.args.piece.now c.args.input.now c.strip_prefix.result (strip_prefix_is Decides-eqb c.args.input.now c.args.piece.now c.strip_prefix.result c.strip_prefix.ensures.cases)
