use Rattle.std.proofs.Common.{◌+◌, arith, refl}
use Rattle.std.proofs.lemmas.List.{set_comm}
use Rattle.ufmt_core.proofs.LastDigits.{last_digits-two, drop-pair}
use Rattle.ufmt_core.proofs.unsigned.write_pair.Goals as goal

pub returns : goal.returns
returns c =
    let start = c.args.start in
    let pair = c.digit_pair-tens in
    rw (
      last_digits-two c.args.pair c.requires.two_digits,
      ← pair.ensures.tens,
      ← pair.ensures.ones,
      set_comm c.args.buffer.now start (start + 1) pair.result.0 pair.result.1 (λ same. omega arith),
    )
    (drop-pair c.args.buffer.now start (start + 1) pair.result.0 pair.result.1 refl c.requires.room)
