use Rattle.std.proofs.Common.{refl, rules}
use Rattle.ufmt_scan.proofs.TextSinks.{scan_converts}
use Rattle.ufmt_scan.specs.Texts.{other_mode}
use Rattle.ufmt_scan.proofs.convert.write_in.Goals as goal

pub returns : goal.returns
returns g c =
    let to = g.M.ParseMode.mode in
    let known = scan_converts g.W.uWrite.seen to c.args.class (other_mode to) c.args.text.now _ c.scan.result c.scan.new.sink
    (rw (c.other_mode.ensures, c.mode.ensures) at c.scan.ensures) refl in
    search (rules, known)
