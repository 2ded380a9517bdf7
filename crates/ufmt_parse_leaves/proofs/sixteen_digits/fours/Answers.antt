use Rattle.std.proofs.Common.{◌*◌, ◌/◌, ◌%◌, ◌^◌, ◌∙◌, ap, map, arith}
use lib.Lanes.{digits_l, number_l}
use Rattle.ufmt_parse_leaves.proofs.PackedDigits.{joined_lanes, number_of_digits, number_below}
use Rattle.ufmt_parse_leaves.proofs.sixteen_digits.fours.Goals as goal

pub returns : goal.returns
returns c =
    let pairs = c.args.pairs in
    ap (λ word. map (λ lane. lane * 6553601 % 2 ^ 32 / 65536) (digits_l (2 ^ 32) 4 word)) (number_of_digits 256 16 (number_l 65536 pairs) (omega arith) (number_below 65536 100 8 pairs (omega arith) c.fits-pairs.0 c.requires))
    ∙ joined_lanes 65536 (2 ^ 32) 100 10000 (λ lane. lane * 6553601 % 2 ^ 32 / 65536) (λ a b rest x y. omega arith) (λ a b rest x y. omega arith) (λ a b x y. omega arith)
    4 pairs c.fits-pairs.0 c.requires
