use Rattle.ufmt_scan.proofs.Conversions.{converts}
use Rattle.ufmt_scan.proofs.convert.convert.Goals as goal

pub returns : goal.returns
returns c = converts c.in_ok-write_converted.ensures c.new-converted.ensures c.into_string.ensures
