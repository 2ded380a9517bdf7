-- `x generate` writes this file: change its template in tools/data/by_count.
use Rattle.ufmt_parser.proofs.Views.{viewed}
use Rattle.ufmt_parser.proofs.by_count.field_parsers.Tuple11RefRefRefRefRefRefRefRefRefRefRefFieldParsersTuple11.parse_rest.Goals as goal

pub returns-in-Err-clause-takes : goal.returns-in-Err-clause-takes
returns-in-Err-clause-takes g c = viewed
    {A = g.row.A.Denot × g.row.B.Denot × g.row.C.Denot × g.row.D.Denot × g.row.E.Denot × g.row.F.Denot × g.row.G.Denot × g.row.H.Denot × g.row.I.Denot × g.row.J.Denot × g.row.K.Denot}
    (λ v. (v.0, (v.1, v.2, v.3, v.4, v.5, v.6, v.7, v.8, v.9, v.10))) c.in-Err.ensures.takes

pub returns-clause-takes : goal.returns-clause-takes
returns-clause-takes g c = viewed
    {A = g.row.A.Denot × g.row.B.Denot × g.row.C.Denot × g.row.D.Denot × g.row.E.Denot × g.row.F.Denot × g.row.G.Denot × g.row.H.Denot × g.row.I.Denot × g.row.J.Denot × g.row.K.Denot}
    (λ v. (v.0, (v.1, v.2, v.3, v.4, v.5, v.6, v.7, v.8, v.9, v.10))) c.in-Ok.ensures.takes

pub returns-in-Err-clause-memory : goal.returns-in-Err-clause-memory
returns-in-Err-clause-memory g c = c.in-Err.ensures.memory
