use Rattle.core.specs.Prelude.{◌≡◌, ◌-◌, ◌*◌, ◌/◌, ◌^◌}
use mathlib.Core.Path.{subst, ap, ◌∙◌}
use native.Mathlib.Omega.{arith}
use Rattle.ufmt_float.specs.Put.{IsPut}
use Rattle.ufmt_float.specs.Text.{last_digits}
use Rattle.ufmt_float.proofs.Puts.{put_odd, odd_quotient}
use Rattle.ufmt_float.proofs.put.put_last_digits.Goals as goal

pub returns-then-count-eq0-clause-left : goal.returns-then-count-eq0-clause-left
returns-then-count-eq0-clause-left c =
    let all : 2 * (c.args.count / 2) ≡ c.args.count = omega arith in
    c.put_pairs-left.ensures.left ∙ ap (λ k. c.args.n / 10 ^ k) all

pub returns-then-count-eq0-clause-written : goal.returns-then-count-eq0-clause-written
returns-then-count-eq0-clause-written c =
    let all : 2 * (c.args.count / 2) ≡ c.args.count = omega arith in
    subst (λ k. IsPut (last_digits k c.args.n) c.args.end c.args.buffer.now (c.args.end - k) c.put_pairs-left.new.buffer) all c.put_pairs-left.ensures.written

pub returns-clause-left : goal.returns-clause-left
returns-clause-left c = odd_quotient c.args.n c.args.count c.put_pairs-left.result (λ e. omega arith) c.put_pairs-left.ensures.left

pub returns-clause-written : goal.returns-clause-written
returns-clause-written c =
    let p = c.put_pairs-left in
    put_odd c.args.n c.args.count p.result c.args.end c.args.buffer.now p.new.buffer (λ e. omega arith) c.requires.0 c.requires.1 p.ensures.left p.ensures.written
