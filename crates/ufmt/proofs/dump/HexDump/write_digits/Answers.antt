use Rattle.std.proofs.Common.{drop}
use Rattle.std.proofs.lemmas.List.{drop_all}
use Rattle.ufmt.proofs.Dumps.{digits_from, digits_from-at, digits_from-nil, digits_from-row}
use Rattle.ufmt.proofs.LeftToWrite.{LeavesText-fails, LeavesText-next, LeavesText-none, Writes-err}
use Rattle.ufmt.proofs.dump.HexDump.write_digits.Goals as goal

pub returns-in_err-write_byte : goal.returns-in_err-write_byte
returns-in_err-write_byte g c =
    let group = c.bytes_per_group-group in
    let row = c.args.row.now in
    let l = c.loop-byte in
    rw (← group.ensures.value, digits_from-row group.result row group.ensures.some)
    (Writes-err {text = digits_from group.result group.result row} _ c.from_residual.ensures.0
    (LeavesText-fails {whole = digits_from group.result group.result row} {left = digits_from group.result l.left (drop l.byte-index row)} _ _ l.invariant
    (digits_from-at group.result l.left row l.byte-index c.loop-byte-test.true) c.in_err-write_byte.ensures))

pub loop-byte-preserved : goal.loop-byte-preserved
loop-byte-preserved g c =
    let group = c.bytes_per_group-group in
    let row = c.args.row.now in
    let l = c.loop-byte in
    rw c.next_left-left.ensures
    (LeavesText-next {whole = digits_from group.result group.result row} {left = digits_from group.result l.left (drop l.byte-index row)} _ _ l.invariant
    (digits_from-at group.result l.left row l.byte-index c.loop-byte-test.true) c.in_ok-write_byte.ensures)

pub returns : goal.returns
returns g c =
    let group = c.bytes_per_group-group in
    let row = c.args.row.now in
    let l = c.loop-byte in
    rw (← group.ensures.value, digits_from-row group.result row group.ensures.some)
    (LeavesText-none {whole = digits_from group.result group.result row} {left = digits_from group.result l.left (drop l.byte-index row)} l.invariant
    (rw (drop_all l.byte-index row c.loop-byte-test.false) (digits_from-nil group.result l.left)))
