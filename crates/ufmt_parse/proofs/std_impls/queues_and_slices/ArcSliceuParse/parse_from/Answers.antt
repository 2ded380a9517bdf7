use Rattle.ufmt_parse.proofs.SameErrors.{same_error}
use Rattle.ufmt_parse.proofs.std_impls.queues_and_slices.ArcSliceuParse.parse_from.Goals as goal

pub returns-in-Err-clause-stops : goal.returns-in-Err-clause-stops
returns-in-Err-clause-stops g c = λ at is place. c.in-Err.ensures.stops at (same_error c.in-Err.fault _ is) place
