use Rattle.std.proofs.Common.{◌-◌}
use Rattle.ufmt_parser.specs.Taking.{open_blocks}
use Rattle.ufmt_parse.proofs.nested.+parse_level.Given as goal

abbrev pub decreases-parse_level : goal.decreases-parse_level
decreases-parse_level g l = 255 - open_blocks l.parser.now
