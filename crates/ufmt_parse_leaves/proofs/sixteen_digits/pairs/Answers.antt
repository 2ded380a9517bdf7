use Rattle.std.proofs.Common.{◌*◌, ◌/◌, ◌%◌, arith}
use Rattle.ufmt_parse_leaves.proofs.PackedDigits.{joined_lanes}
use Rattle.ufmt_parse_leaves.proofs.sixteen_digits.pairs.Goals as goal

pub returns : goal.returns
returns c =
    joined_lanes 256 65536 10 100 (λ lane. lane * 2561 % 65536 / 256) (λ a b rest x y. omega arith) (λ a b rest x y. omega arith) (λ a b x y. omega arith)
    8 c.args.digits c.fits-digits.0 c.requires
