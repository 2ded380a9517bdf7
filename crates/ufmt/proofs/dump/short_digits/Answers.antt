use Rattle.std.proofs.Common.{◌∙◌, ◌<◌, ap, arith, length, length-append, rules}
use Rattle.std.proofs.lemmas.List.{nil_from_length, take_more_set}
use Rattle.std.specs.Slice.Iter.{chunks_rest}
use Rattle.ufmt_core.specs.Bytes.{space}
use Rattle.ufmt.proofs.AsciiDumps.{IsAscii-digits_column}
use Rattle.ufmt.proofs.Dumps.{spaced-all, spaced-cut}
use Rattle.ufmt.proofs.dump.short_digits.Goals as goal

pub loop-bytes-preserved : goal.loop-bytes-preserved
loop-bytes-preserved c =
    let l = c.loop-bytes in
    let group = c.args.group in
    let chunk = c.in-Some.bytes.now in
    let rest = chunks_rest c.next.new.self in
    let steps = c.in-Some.ensures.steps in
    let size = rw l.invariant.size at steps.1.1 in
    let room : l.end < length l.buffer = omega (arith, l.invariant.room, steps.1.2) in record {
      can_next = search rules;
      is_finite = tt;
      size = steps.0 ∙ l.invariant.size;
      room = omega (arith, l.invariant.room, ap length steps.1.0, length-append chunk rest, c.put_digits-end.ensures.end, size, steps.1.2, c.requires.some_group);
      written = rw (c.put_digits-end.ensures.written, take_more_set l.buffer l.end space room)
          (spaced-cut group _ (chunks_rest l.bytes-iterator) chunk rest c.requires.some_group steps.1.2 steps.1.0 size ∙ l.invariant.written);
    }

pub text_from-requires-clause-ascii : goal.text_from-requires-clause-ascii
text_from-requires-clause-ascii c =
    let l = c.loop-bytes in
    rw (spaced-all c.args.group _ _ c.args.row.now c.requires.some_group c.requires.some (nil_from_length _ c.in-None.ensures.steps.1.0) l.invariant.written)
    (IsAscii-digits_column c.args.group c.args.row.now c.requires.some_group (λ k. omega (arith, c.type_inv.row k)))

pub returns : goal.returns
returns c =
    let l = c.loop-bytes in
    c.text_from.ensures
    ∙ spaced-all c.args.group _ _ c.args.row.now c.requires.some_group c.requires.some (nil_from_length _ c.in-None.ensures.steps.1.0) l.invariant.written
