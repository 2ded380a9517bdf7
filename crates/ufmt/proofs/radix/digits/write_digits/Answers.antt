use Rattle.std.proofs.Common.{◌≡◌, true≢false, sym, ◌∙◌, arith}
use Rattle.ufmt_core.proofs.WrittenDigits.{digit_fits, IsWrittenFrom-more, IsWrittenFrom-all}
use Rattle.ufmt.proofs.RadixTexts.{digits-in_base, fewer_digits}
use Rattle.ufmt.proofs.radix.digits.write_digits.Goals as goal

pub overflow_sub-start : goal.overflow_sub-start
overflow_sub-start g c =
    let l = c.loop-rest in
    let value = g.N.Digits.value in
    digit_fits (digits-in_base g.row.BASE c.requires.two c.args.upper_case) (value c.args.n) (value l.left) l.start l.buffer (omega arith) l.invariant

pub bounds-buffer-start : goal.bounds-buffer-start
bounds-buffer-start g c =
    let l = c.loop-rest in
    let value = g.N.Digits.value in
    omega (
      arith,
      l.invariant.within,
      digit_fits (digits-in_base g.row.BASE c.requires.two c.args.upper_case) (value c.args.n) (value l.left) l.start l.buffer
          (omega arith) l.invariant,
    )

pub returns-then-is_zero-clause-written : goal.returns-then-is_zero-clause-written
returns-then-is_zero-clause-written g c =
    let l = c.loop-rest in
    let value = g.N.Digits.value in
    let split = c.split_last_digit-rest in
    IsWrittenFrom-all (digits-in_base g.row.BASE c.requires.two c.args.upper_case) (value c.args.n) (value l.left) l.start l.buffer (omega arith) l.invariant
    (value split.result.0) split.result.1 c.digit_byte.result split.ensures.rest split.ensures.digit c.digit_byte.ensures
    (c.is_zero.ensures.0 c.if-is_zero.true)

pub loop-rest-preserved : goal.loop-rest-preserved
loop-rest-preserved g c =
    let l = c.loop-rest in
    let value = g.N.Digits.value in
    let split = c.split_last_digit-rest in
    let more = λ (none : value split.result.0 ≡ 0). true≢false (sym (c.is_zero.ensures.1 none) ∙ c.if-is_zero.false) in
    IsWrittenFrom-more (digits-in_base g.row.BASE c.requires.two c.args.upper_case) (value c.args.n) (value l.left) l.start l.buffer (omega arith) l.invariant
    (value split.result.0) split.result.1 c.digit_byte.result split.ensures.rest split.ensures.digit c.digit_byte.ensures more

pub loop-rest-smaller : goal.loop-rest-smaller
loop-rest-smaller g c =
    let l = c.loop-rest in
    let value = g.N.Digits.value in
    let split = c.split_last_digit-rest in
    let more = λ (none : value split.result.0 ≡ 0). true≢false (sym (c.is_zero.ensures.1 none) ∙ c.if-is_zero.false) in
    fewer_digits g.row.BASE (value l.left) (value split.result.0) c.requires.two split.ensures.rest more
