use Rattle.std.proofs.Common.{refl}
use Rattle.ufmt_scan.proofs.AsciiFronts.{quotes_some, quotes_split}
use Rattle.ufmt_scan.proofs.debug_leaf.split_debug_quotes.Goals as goal

pub returns-then-ends_here-clause-front : goal.returns-then-ends_here-clause-front
returns-then-ends_here-clause-front c =
    quotes_split c.args.input.now c.in_ok-text.text.now c.in_ok-text.rest.now c.in_ok-text.ensures (c.ends_here.ensures c.if-ends_here.true) _ refl refl refl

pub returns-then-ends_here-clause-some : goal.returns-then-ends_here-clause-some
returns-then-ends_here-clause-some c = quotes_some c.args.input.now c.in_ok-text.text.now c.in_ok-text.rest.now c.in_ok-text.ensures
