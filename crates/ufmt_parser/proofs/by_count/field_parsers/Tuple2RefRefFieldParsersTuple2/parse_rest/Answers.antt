-- `x generate` writes this file: change its template in tools/data/by_count.
use Rattle.ufmt_parser.proofs.Views.{viewed}
use Rattle.ufmt_parser.proofs.by_count.field_parsers.Tuple2RefRefFieldParsersTuple2.parse_rest.Goals as goal

pub returns-in-Err-clause-takes : goal.returns-in-Err-clause-takes
returns-in-Err-clause-takes g c = viewed
    {A = g.row.A.Denot × g.row.B.Denot}
    (λ v. (v.0, record { 0 = v.1 })) c.in-Err.ensures.takes

pub returns-clause-takes : goal.returns-clause-takes
returns-clause-takes g c = viewed
    {A = g.row.A.Denot × g.row.B.Denot}
    (λ v. (v.0, record { 0 = v.1 })) c.in-Ok.ensures.takes

pub returns-in-Err-clause-memory : goal.returns-in-Err-clause-memory
returns-in-Err-clause-memory g c = c.in-Err.ensures.memory
