use Rattle.core.specs.Prelude.{◌≡◌, ◌-◌}
use mathlib.Core.Path.{refl}
use native.Mathlib.Omega.{arith}
use Rattle.ufmt_float.proofs.Puts.{put_none, put_pair, pair_quotient, last_digits-none}
use Rattle.ufmt_float.proofs.put.put_pairs.Goals as goal

pub loop-i-init : goal.loop-i-init
loop-i-init c = (omega arith, let all : c.args.end - 0 ≡ c.args.end = omega arith in rw (last_digits-none, all) (put_none c.args.end c.args.buffer.now))

pub loop-i-preserved : goal.loop-i-preserved
loop-i-preserved c =
    let l = c.loop-i in
    let d = c.digit_pair-tens in (
      pair_quotient c.args.n l.i l.left l.invariant.0,
      put_pair c.args.n l.i l.left c.args.end _ d.result.0 d.result.1 c.args.buffer.now l.buffer (omega arith) c.requires.1 l.invariant.0 refl d.ensures.tens d.ensures.ones l.invariant.1,
    )
