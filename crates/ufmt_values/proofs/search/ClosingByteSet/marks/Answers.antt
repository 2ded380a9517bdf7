use Rattle.ufmt_values.proofs.SetLanes.{closing_marked}
use Rattle.ufmt_values.proofs.search.ClosingByteSet.marks.Goals as goal

pub returns : goal.returns
returns c = closing_marked c.args.bytes c.fits-bytes.0 c.fits-bytes.1
