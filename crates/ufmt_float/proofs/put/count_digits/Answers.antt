use native.Mathlib.Omega.{arith}
use Rattle.ufmt_float.proofs.Puts.{one_digit, decimal_bounds}
use Rattle.ufmt_float.proofs.put.count_digits.Goals as goal

pub returns-clause-count : goal.returns-clause-count
returns-clause-count c =
    let a = c.cut-left.ensures.less (omega arith) in
    let b = c.cut-left-2.ensures.less (omega arith) in
    let d = c.cut-left-3.ensures.less (omega arith) in
    let e = c.cut-left-4.ensures.less (omega arith) in
    let f = c.cut-count.ensures.less (omega arith) in
    omega (arith, one_digit c.cut-count.result.0 f)

pub returns-clause-bounds : goal.returns-clause-bounds
returns-clause-bounds c =
    let a = c.cut-left.ensures.less (omega arith) in
    let b = c.cut-left-2.ensures.less (omega arith) in
    let d = c.cut-left-3.ensures.less (omega arith) in
    let e = c.cut-left-4.ensures.less (omega arith) in
    let f = c.cut-count.ensures.less (omega arith) in
    omega (arith, one_digit c.cut-count.result.0 f, decimal_bounds c.args.n c.ranges.n.fits)
