use Rattle.std.proofs.Common.{arith, sym}
use Rattle.ufmt_parser.proofs.Strips.{short_text}
use Rattle.ufmt_parser.proofs.strip.strip_piece.Goals as goal

pub returns-then-input-piece : goal.returns-then-input-piece
returns-then-input-piece c = sym (short_text c.args.piece.now c.args.input.now (omega (arith, c.if-input-piece.true, c.as_bytes-piece.ensures.len)))
