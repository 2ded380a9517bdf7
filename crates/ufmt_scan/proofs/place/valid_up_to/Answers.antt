use Rattle.std.proofs.Common.{arith}
use Rattle.ufmt_scan.proofs.Places.{reads_up_to}
use Rattle.ufmt_scan.proofs.place.valid_up_to.Goals as goal

pub returns : goal.returns
returns c = reads_up_to c.args.class c.args.mode c.args.text.now (omega arith) c.scan_once-outcome.result c.scan_once-outcome.new.sink c.min.result
    c.scan_once-outcome.ensures c.min.ensures
