use Rattle.std.proofs.Common.{length, arith}
use Rattle.ufmt.proofs.RadixTexts.{room_in_base}
use Rattle.ufmt.proofs.radix.digits.radix_digits.Goals as goal

pub digits_text-requires-in-Octal-clause-room : goal.digits_text-requires-in-Octal-clause-room
digits_text-requires-in-Octal-clause-room g c = room_in_base 8 (g.N.Digits.value c.args.n) (length c.args.buffer.now) (omega arith) c.requires.room

pub digits_text-requires-in-Hexadecimal-clause-room : goal.digits_text-requires-in-Hexadecimal-clause-room
digits_text-requires-in-Hexadecimal-clause-room g c = room_in_base 16 (g.N.Digits.value c.args.n) (length c.args.buffer.now) (omega arith) c.requires.room
