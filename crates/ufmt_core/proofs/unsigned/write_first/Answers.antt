use Rattle.std.proofs.Common.{refl}
use Rattle.ufmt_core.proofs.LastDigits.{first_placed}
use Rattle.ufmt_core.proofs.unsigned.write_first.Goals as goal

pub returns : goal.returns
returns c =
    let start = c.first_index-start in
    let pair = c.digit_pair-tens in record {
      start = start.ensures.start;
      written = first_placed c.args.n start.result c.args.end pair.result.0 pair.result.1 _ c.args.buffer.now refl c.requires.two_digits start.ensures.start
          c.requires.within pair.ensures.tens pair.ensures.ones;
    }
