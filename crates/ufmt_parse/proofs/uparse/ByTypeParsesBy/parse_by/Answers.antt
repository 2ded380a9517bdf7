use Rattle.std.proofs.Common.{Ok, Err}
use Rattle.ufmt_parser.proofs.Clauses.{taken_by_clauses}
use Rattle.ufmt_parse.proofs.uparse.ByTypeParsesBy.parse_by.Goals as goal

pub returns-clause-takes : goal.returns-clause-takes
returns-clause-takes g c =
    taken_by_clauses g.M.ParseMode.mode g.T.uParse.is_value g.T.uDebug.document c.args.parser.now c.parse_from.new.parser (Ok c.in-Ok.value) c.prove_value.ensures
    c.in-Ok.ensures.taken c.in-Ok.ensures.only c.in-Ok.ensures.none

pub returns-in-Err-clause-takes : goal.returns-in-Err-clause-takes
returns-in-Err-clause-takes g c =
    taken_by_clauses g.M.ParseMode.mode g.T.uParse.is_value g.T.uDebug.document c.args.parser.now c.parse_from.new.parser (Err c.in-Err.fault) tt
    c.in-Err.ensures.taken c.in-Err.ensures.only c.in-Err.ensures.none
