use Rattle.std.proofs.Common.{rules}
use Rattle.ufmt_scan.proofs.Conversions.{into_refused, into_whole}
use Rattle.ufmt_scan.proofs.convert.convert_into.Goals as goal

pub returns-in_err-write_converted : goal.returns-in_err-write_converted
returns-in_err-write_converted c =
    let begun = c.new-cursor.ensures in
    let known = into_refused begun.written begun.unwritten c.in_err-write_converted.ensures c.from_residual.result c.from_residual.ensures.1 in search (rules, known)

pub returns : goal.returns
returns c = let known = into_whole c.new-cursor.ensures.written c.new-cursor.ensures.unwritten c.in_ok-write_converted.ensures in search (rules, known)
