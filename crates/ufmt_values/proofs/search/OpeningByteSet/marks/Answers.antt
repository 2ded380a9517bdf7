use Rattle.ufmt_values.proofs.SetLanes.{opening_marked}
use Rattle.ufmt_values.proofs.search.OpeningByteSet.marks.Goals as goal

pub returns : goal.returns
returns c = opening_marked c.args.bytes c.fits-bytes.0 c.fits-bytes.1
