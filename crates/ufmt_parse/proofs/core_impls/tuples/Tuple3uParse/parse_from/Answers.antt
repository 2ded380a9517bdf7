-- `x generate` writes this file: change its template in tools/data/by_count.
use Rattle.std.proofs.lemmas.Result.{IfErr-weaker, IfOk-weaker}
use Rattle.ufmt_parse.proofs.core_impls.tuples.Tuple3uParse.parse_from.Goals as goal

pub returns-clause-taken : goal.returns-clause-taken
returns-clause-taken g c = c.parse_tuple.ensures.taken

pub returns-clause-only : goal.returns-clause-only
returns-clause-only g c = IfOk-weaker c.parse_tuple.result _ _ (λ _ only v are. only v (are.0, (are.1, (are.2, tt)))) c.parse_tuple.ensures.only

pub returns-clause-none : goal.returns-clause-none
returns-clause-none g c = IfErr-weaker c.parse_tuple.result _ _ (λ _ none is_not v are. none is_not v (are.0, (are.1, (are.2, tt)))) c.parse_tuple.ensures.none

pub returns-clause-memory : goal.returns-clause-memory
returns-clause-memory g c = λ none. c.parse_tuple.ensures.memory (none.0, (none.1, (none.2, tt)))
