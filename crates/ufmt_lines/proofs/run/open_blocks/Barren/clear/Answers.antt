use Rattle.std.proofs.Common.{◌≤◌, length, rules}
use Rattle.ufmt_lines.proofs.OpenBlocks.{none_kept}
use Rattle.ufmt_lines.proofs.run.open_blocks.Barren.clear.Goals as goal

pub returns : goal.returns
returns c = λ text.
    let places = c.args.self.now.places in
    let few : length places ≤ 256 = search rules in
    none_kept text places 256 few
