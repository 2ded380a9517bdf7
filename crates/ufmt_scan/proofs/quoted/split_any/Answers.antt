use Rattle.std.proofs.Common.{rules}
use Rattle.ufmt_scan.proofs.QuotedLeaves.{is_read, no_text}
use Rattle.ufmt_scan.proofs.quoted.split_any.Goals as goal

pub returns-in-Err : goal.returns-in-Err
returns-in-Err c = no_text _ _ _ c.in_ok-quote.ensures.cases.0 _ c.in_ok-rest.ensures _ c.split_at.ensures.front c.in-Err.ensures.cases.0

pub returns-in-Ok : goal.returns-in-Ok
returns-in-Ok c = is_read _ _ _ c.in_ok-quote.ensures.cases.0 _ c.in_ok-rest.ensures _ c.split_at.ensures.front _ c.in-Ok.ensures.cases.0 c.in-Ok.ensures.cases.1 (search rules)
