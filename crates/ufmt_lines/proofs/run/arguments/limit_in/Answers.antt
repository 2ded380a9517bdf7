use Rattle.std.proofs.lemmas.Bool.Decides.{Decides-eqb}
use Rattle.std.proofs.lemmas.Slice.Eq.{strip_prefix_is}
use Rattle.std.specs.Prelude.{codes}
use Rattle.ufmt_scan.proofs.Strips.{stripped}
use Rattle.ufmt_lines.proofs.run.arguments.limit_in.Goals as goal

pub returns : goal.returns
returns c =
    let prefix = codes "--longer-than=" in
    stripped prefix c.args.word.now c.strip_prefix.result (strip_prefix_is Decides-eqb c.args.word.now prefix c.strip_prefix.result c.strip_prefix.ensures.cases)
