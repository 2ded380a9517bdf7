use Rattle.std.proofs.Common.{[]}
use Rattle.ufmt_c.proofs.filler.Filler.new.Given as goal

abbrev pub ghost-new : goal.ghost-new
ghost-new a = []

abbrev pub ghost-of : goal.ghost-of
ghost-of a = a.bytes.now
