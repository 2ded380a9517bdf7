use Rattle.std.proofs.Common.{arith}
use Rattle.std.proofs.lemmas.List.{append-nil}
use Rattle.ufmt_parser.specs.Taking.{open_blocks, setting_in}
use Rattle.ufmt_parser.proofs.Naming.{no_unit, tuple_alone, unit_leaves}
use Rattle.ufmt_parser.proofs.Words.{name_is}
use Rattle.ufmt_parser.proofs.units.parse_unit.Goals as goal

pub returns-then-eat-clause-taken : goal.returns-then-eat-clause-taken
returns-then-eat-clause-taken g c = (c.if-eat.ensures.eats, ((name_is c.args.name.now c.utf8.name c.requires).whole, omega (arith, c.eat.ensures.counted)))

pub returns-then-eat-clause-struct_taken : goal.returns-then-eat-clause-struct_taken
returns-then-eat-clause-struct_taken g c =
    (rw (append-nil c.args.name.now) c.if-eat.ensures.eats, ((name_is c.args.name.now c.utf8.name c.requires, tt), omega (arith, c.eat.ensures.counted)))

pub returns-then-eat-clause-tuple_taken : goal.returns-then-eat-clause-tuple_taken
returns-then-eat-clause-tuple_taken g c =
    (rw (tuple_alone (setting_in g.M.ParseMode.mode (open_blocks c.args.parser.now)) c.args.name.now c.requires) c.if-eat.ensures.eats, (name_is c.args.name.now c.utf8.name c.requires, omega (arith, c.eat.ensures.counted)))

pub returns-then-eat-clause-only : goal.returns-then-eat-clause-only
returns-then-eat-clause-only g c = λ d is. unit_leaves g.M.ParseMode.mode c.args.parser.now c.args.name.now c.requires d is c.eat.new.self c.if-eat.ensures.eats

pub returns-else-eat-clause-none : goal.returns-else-eat-clause-none
returns-else-eat-clause-none g c = λ d is. no_unit g.M.ParseMode.mode c.args.parser.now c.args.name.now c.requires d is c.if-eat.ensures.eats
