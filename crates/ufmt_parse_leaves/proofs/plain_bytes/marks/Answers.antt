use Rattle.ufmt_parse_leaves.proofs.PlainLanes.{marked, tested}
use Rattle.ufmt_parse_leaves.proofs.plain_bytes.marks.Goals as goal

pub returns : goal.returns
returns c = marked c.args.bytes _ c.fits-bytes.0 c.fits-bytes.1 (tested c.args.bytes c.fits-bytes.0)
