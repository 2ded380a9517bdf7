use Rattle.std.proofs.Common.{length}
use Rattle.ufmt_scan.specs.Private.Spelled.{IsSpelled}
use Rattle.ufmt_scan.proofs.quoted.after_quote.Given as goal

abbrev pub invariant-escapes : goal.invariant-escapes
invariant-escapes l = IsSpelled l.quote l.input l.rest

abbrev pub decreases-escapes : goal.decreases-escapes
decreases-escapes l = length l.rest
