-- All before the rest was printed.
use denote.Shadow.{shadow}
use denote.Text.{Utf8}
use Rattle.std.proofs.Common.{length}
use Rattle.ufmt_core.specs.Quoted.{escaped_bytes}
use Rattle.ufmt_core.proofs.QuotedBytes.{PrintedBefore}
use Rattle.ufmt_core.proofs.quoted.write_escaped.Given as goal

abbrev pub invariant-stretches : goal.invariant-stretches
invariant-stretches g l = shadow (Utf8 l.rest) × PrintedBefore g.W.uWrite.seen l.fn.f (escaped_bytes 34 l.text) (escaped_bytes 34 l.rest) l.f

abbrev pub decreases-stretches : goal.decreases-stretches
decreases-stretches g l = length l.rest
