use Rattle.std.proofs.Common.{◌∙◌, ◌+◌, ap, arith, length, length-append, rules}
use Rattle.std.proofs.lemmas.List.{nil_from_length}
use Rattle.std.specs.Slice.Iter.{chunks_rest}
use Rattle.ufmt.specs.Dump.{bytes_per_row, chunks, dump_text, row_text, rows_text}
use Rattle.ufmt.proofs.Dumps.{chunks-cut}
use Rattle.ufmt.proofs.LeftToWrite.{LeavesText-fails, LeavesText-next, LeavesText-none, Writes-err}
use Rattle.ufmt.proofs.dump.write_hex_dump.Goals as goal

pub returns-in_err-write_row : goal.returns-in_err-write_row
returns-in_err-write_row g c =
    let l = c.loop-row in
    let dump = c.args.dump.now in
    let row = c.in-Some.row.now in
    let after = chunks_rest c.next.new.self in
    let steps = c.in-Some.ensures.steps in
    let cut = chunks-cut (bytes_per_row dump) (chunks_rest l.row-iterator) row after (rw l.invariant.size at l.invariant.can_next) steps.1.2
    steps.1.0 (rw l.invariant.size at steps.1.1) in
    Writes-err {text = dump_text dump c.args.bytes.now} _ c.from_residual.ensures.0
    (LeavesText-fails (row_text dump l.before row) (rows_text dump (l.before + length row) (chunks (bytes_per_row dump) after)) l.invariant.left
    (ap (rows_text dump l.before) cut) c.in_err-write_row.ensures)

pub loop-row-preserved : goal.loop-row-preserved
loop-row-preserved g c =
    let l = c.loop-row in
    let dump = c.args.dump.now in
    let row = c.in-Some.row.now in
    let after = chunks_rest c.next.new.self in
    let steps = c.in-Some.ensures.steps in
    let cut = chunks-cut (bytes_per_row dump) (chunks_rest l.row-iterator) row after (rw l.invariant.size at l.invariant.can_next) steps.1.2
    steps.1.0 (rw l.invariant.size at steps.1.1) in record {
      can_next = search rules;
      is_finite = tt;
      size = steps.0 ∙ l.invariant.size;
      place = omega (arith, l.invariant.place, ap length steps.1.0, length-append row after);
      left = LeavesText-next (row_text dump l.before row) (rows_text dump (l.before + length row) (chunks (bytes_per_row dump) after)) l.invariant.left
          (ap (rows_text dump l.before) cut) c.in_ok-write_row.ensures;
    }

pub returns : goal.returns
returns g c =
    LeavesText-none c.loop-row.invariant.left
    (ap (λ t. rows_text c.args.dump.now c.loop-row.before (chunks (bytes_per_row c.args.dump.now) t)) (nil_from_length _ c.in-None.ensures.steps.1.0))
