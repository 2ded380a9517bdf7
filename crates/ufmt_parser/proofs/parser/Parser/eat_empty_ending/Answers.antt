use Rattle.std.proofs.Common.{◌≡◌, subst}
use Rattle.ufmt_core.specs.Layout.{ending, frame}
use Rattle.ufmt_core.specs.declared.layout.Count.TheVariants.{Zero}
use Rattle.ufmt_grammar.specs.Reading.{strip}
use Rattle.ufmt_parser.specs.Taking.{open_blocks, rest, setting_in}
use Rattle.ufmt_scan.specs.Rest.{now_of}
use Rattle.ufmt_parser.proofs.Strips.{shorter, was_there, was_not_there}
use Rattle.ufmt_parser.proofs.parser.Parser.eat_empty_ending.Goals as goal

pub returns-in-Some-clause-eats : goal.returns-in-Some-clause-eats
returns-in-Some-clause-eats g c = was_there _ _ _ _
    (subst (λ mode. now_of c.strip_ending.result ≡ strip (ending (frame mode c.args.kind) (setting_in mode (open_blocks c.args.self.now)) Zero) (rest c.args.self.now))
    c.mode.ensures c.strip_ending.ensures) c.in-Some.is

pub returns-in-None-clause-eats : goal.returns-in-None-clause-eats
returns-in-None-clause-eats g c = was_not_there _ _ _
    (subst (λ mode. now_of c.strip_ending.result ≡ strip (ending (frame mode c.args.kind) (setting_in mode (open_blocks c.args.self.now)) Zero) (rest c.args.self.now))
    c.mode.ensures c.strip_ending.ensures) c.in-None.is

pub returns-in-Some-clause-shrinks : goal.returns-in-Some-clause-shrinks
returns-in-Some-clause-shrinks g c = shorter _ _ _ _ c.strip_ending.ensures c.in-Some.is
