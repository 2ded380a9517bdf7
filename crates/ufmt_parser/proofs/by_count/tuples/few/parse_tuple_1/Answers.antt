-- `x generate` writes this file: change its template in tools/data/by_count.
use Rattle.ufmt_parser.proofs.Alike.{no_tuple_alike}
use Rattle.ufmt_parser.proofs.Naming.{no_tuple, tuple_leaves}
use Rattle.ufmt_parser.proofs.by_count.tuples.few.parse_tuple_1.Goals as goal

pub returns-in-Err-clause-none : goal.returns-in-Err-clause-none
returns-in-Err-clause-none g c = λ is_not _ a_value same is_a. no_tuple _ _ _ _ _
    (c.in-Err.ensures.none is_not (record { 0 = a_value }) (is_a, tt)) same

pub returns-in-Err-clause-alike : goal.returns-in-Err-clause-alike
returns-in-Err-clause-alike g c = λ is_not other others a_value named same is_a. no_tuple_alike _ _ _ _
    (c.in-Err.ensures.none is_not (record { 0 = a_value }) (is_a, tt)) other others named same

pub returns-in-Ok-clause-only : goal.returns-in-Ok-clause-only
returns-in-Ok-clause-only g c = λ _ a_value same is_a. tuple_leaves _ _ _ _ _ _
    (c.in-Ok.ensures.only (record { 0 = a_value }) (is_a, tt)) same
