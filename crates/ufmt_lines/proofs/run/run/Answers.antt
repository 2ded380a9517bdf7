use Rattle.std.proofs.Common.{◌≡◌, ◌≤◌, ◌+◌, ◌∙◌, ap, arith, length, refl, rules, subst, sym, []}
use Rattle.std.proofs.lemmas.Result.{on_ok_weaker}
use Rattle.std.specs.Prelude.{⊤}
use Rattle.ufmt_lines.specs.Groups.{IsInGroup}
use Rattle.ufmt_lines.specs.Private.Group.{IsReading, group_bytes}
use Rattle.ufmt_io.specs.Watched.{device_of}
use Rattle.ufmt_lines.proofs.Consumed.{WritesUpTo, consumed_within, last_written, last_in_part, nothing_read, one_each, read_as, read_in_part, read_kept, read_more, read_more_text, read_nothing}
use Rattle.ufmt_lines.proofs.Readings.{reading_nothing, reading_one, reading_within}
use Rattle.ufmt_lines.proofs.run.run.Goals as goal

pub returns-in_err-chunk-clause-out_of_memory : goal.returns-in_err-chunk-clause-out_of_memory
returns-in_err-chunk-clause-out_of_memory g c = λ failed. read_as c.args.conversion [] _ _ _ _ (nothing_read c.args.conversion _ _) (λ rest. ⊤) tt

pub reads-init : goal.reads-init
reads-init g c = record {
  input_works = c.requires.input_works;
  output_works = c.requires.output_works;
  turns = search rules;
  reads_on = refl;
  writes_on = refl;
  conversion = c.new-group.ensures.conversion;
  reading = reading_nothing c.args.conversion.to c.new-group.result c.new-group.ensures.bytes c.new-group.ensures.line;
  none = c.new-group.ensures.outputs;
  room = c.in_ok-chunk.ensures;
  so_far = subst (λ group. WritesUpTo c.args.conversion group (g.R.Read.remaining (device_of c.args.input.now)) (g.R.Read.remaining (device_of c.args.input.now))
      (g.W.Write.contents (device_of c.args.output.now)) (g.W.Write.contents (device_of c.args.output.now))) (sym c.new-group.ensures.bytes) (nothing_read c.args.conversion _ _);
  each = search rules;
}

pub reads-preserved : goal.reads-preserved
reads-preserved g c =
    let so_far = c.reads.invariant in
    let written = rw (so_far.conversion, c.front.ensures.bytes) at c.in_ok-write_ended.ensures.ok in
    let size = sym (ap length c.front.ensures.bytes) ∙ c.front.ensures.size in
    let text = read_more_text c.args.conversion _ _ _ _ _ c.reads.invariant.so_far _ _ _ c.in_ok-count.ensures.ok (λ rest. rest ≡ group_bytes c.write_ended.new.self) _ refl written in
    record {
      input_works = c.in_ok-count.ensures.works;
      output_works = search rules;
      turns = search rules;
      reads_on = search rules;
      writes_on = search rules;
      conversion = c.write_ended.ensures.conversion ∙ so_far.conversion;
      reading = rw so_far.conversion at c.in_ok-write_ended.ensures.reading;
      none = c.in_ok-write_ended.ensures.none;
      room = c.in_ok-count.ensures.room;
      so_far = read_more c.args.conversion _ _ _ _ _ c.reads.invariant.so_far _ _ _ c.in_ok-count.ensures.ok
          (λ rest. rest ≡ group_bytes c.write_ended.new.self) _ refl written;
      each = subst (λ t. c.reads.turns + 1 ≤ length t) (sym text)
          (one_each c.reads.invariant.so_far.text _ c.in_ok-count.count c.reads.turns c.reads.invariant.each size c.if-count-eq0.false);
    }

pub write_ended-requires-clause-reading : goal.write_ended-requires-clause-reading
write_ended-requires-clause-reading g c = subst (λ conversion. IsReading conversion.to c.reads.group) (sym c.reads.invariant.conversion) c.reads.invariant.reading

pub returns-in_err-count-clause-cannot_read : goal.returns-in_err-count-clause-cannot_read
returns-in_err-count-clause-cannot_read g c = λ failed. read_kept c.args.conversion _ _ _ _ _ c.reads.invariant.so_far _ (IsInGroup c.args.conversion.to) (reading_within c.args.conversion.to c.reads.group c.reads.invariant.reading) c.in_err-count.ensures.kept

pub returns-then-count-eq0-clause-ok : goal.returns-then-count-eq0-clause-ok
returns-then-count-eq0-clause-ok g c = on_ok_weaker c.write_last.result (λ written.
    last_written c.args.conversion _ _ _ _ _ c.reads.invariant.so_far _ _ (rw c.if-count-eq0.true at c.in_ok-count.ensures.ok)
    (c.in_ok-count.ensures.end c.if-count-eq0.true) (reading_one c.args.conversion.to c.reads.group c.reads.invariant.reading) written) (rw c.reads.invariant.conversion at c.write_last.ensures.ok)

pub returns-then-count-eq0-clause-read_whole : goal.returns-then-count-eq0-clause-read_whole
returns-then-count-eq0-clause-read_whole g c = on_ok_weaker c.write_last.result (λ written. c.in_ok-count.ensures.end c.if-count-eq0.true) c.write_last.ensures.ok

pub returns-then-count-eq0-clause-cannot_write : goal.returns-then-count-eq0-clause-cannot_write
returns-then-count-eq0-clause-cannot_write g c = λ failed.
    last_in_part c.args.conversion _ _ _ _ _ c.reads.invariant.so_far _ _ (rw c.if-count-eq0.true at c.in_ok-count.ensures.ok)
    (c.in_ok-count.ensures.end c.if-count-eq0.true) (reading_one c.args.conversion.to c.reads.group c.reads.invariant.reading) (rw c.reads.invariant.conversion at (c.write_last.ensures.cannot_write failed))

pub returns-then-count-eq0-clause-out_of_memory : goal.returns-then-count-eq0-clause-out_of_memory
returns-then-count-eq0-clause-out_of_memory g c = λ failed.
    rw (c.write_last.ensures.out_of_memory failed)
    (read_nothing c.args.conversion _ _ _ _ _ c.reads.invariant.so_far _ (λ rest. ⊤) tt (rw c.if-count-eq0.true at c.in_ok-count.ensures.ok))

pub returns-in_err-write_ended-clause-cannot_write : goal.returns-in_err-write_ended-clause-cannot_write
returns-in_err-write_ended-clause-cannot_write g c = λ failed.
    read_in_part c.args.conversion _ _ _ _ _ c.reads.invariant.so_far _ _ _ c.in_ok-count.ensures.ok
    (rw (c.reads.invariant.conversion, c.front.ensures.bytes) at (c.in_err-write_ended.ensures.cannot_write (search rules)))

pub returns-in_err-write_ended-clause-out_of_memory : goal.returns-in_err-write_ended-clause-out_of_memory
returns-in_err-write_ended-clause-out_of_memory g c = λ failed.
    let part = c.in_err-write_ended.ensures.out_of_memory (search rules) in
    read_more c.args.conversion _ _ _ _ _ c.reads.invariant.so_far _ _ _ c.in_ok-count.ensures.ok (λ rest. ⊤) part.0 tt (rw (c.reads.invariant.conversion, c.front.ensures.bytes) at part.1)

pub returns-clause-cannot_read : goal.returns-clause-cannot_read
returns-clause-cannot_read g c = λ failed. rw c.give_up.ensures.device (read_as c.args.conversion _ _ _ _ _ c.reads.invariant.so_far (IsInGroup c.args.conversion.to) (reading_within c.args.conversion.to c.reads.group c.reads.invariant.reading))

pub returns-clause-reads_on : goal.returns-clause-reads_on
returns-clause-reads_on g c = λ bytes known fewer.
    let within = consumed_within _ _ _ bytes c.reads.invariant.so_far.read known in
    absurd (omega (arith, fewer, within, c.reads.invariant.each, c.reads-test.false))
