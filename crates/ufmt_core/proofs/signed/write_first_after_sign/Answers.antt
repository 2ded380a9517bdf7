use Rattle.std.proofs.Common.{refl}
use Rattle.ufmt_core.proofs.LastDigits.{first_written}
use Rattle.ufmt_core.proofs.signed.write_first_after_sign.Goals as goal

pub returns : goal.returns
returns c =
    let first = first_written c.args.n c.args.end _ c.args.buffer.now c.write_pair.new.buffer refl c.requires.two_digits c.requires.room c.write_pair.ensures in
    rw c.from.ensures (record { start = first.starts; written = first.written })
