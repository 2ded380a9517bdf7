use Rattle.std.proofs.Common.{◌-◌}
use Rattle.ufmt_parse.specs.Taking.{open_blocks}
use Rattle.example_parse.proofs.node.+parse_node.Given as goal

abbrev pub decreases-parse_node : goal.decreases-parse_node
decreases-parse_node g l = 255 - open_blocks l.parser.now
