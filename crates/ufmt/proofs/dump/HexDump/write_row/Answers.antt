use Rattle.std.proofs.Common.{arith}
use Rattle.ufmt.proofs.AsciiDumps.{IsAscii-row_text}
use Rattle.ufmt.proofs.dump.HexDump.write_row.Goals as goal

pub text_from-requires-clause-ascii : goal.text_from-requires-clause-ascii
text_from-requires-clause-ascii g c = rw c.in-Ok.ensures.whole.0 (IsAscii-row_text c.args.self.now c.args.before c.args.row.now (λ k. omega (arith, c.type_inv.row k)))
