-- `x generate` writes this file: change its template in tools/data/by_count.
use Rattle.std.proofs.lemmas.Result.{IfErr-weaker, IfOk-weaker}
use Rattle.ufmt_parser.proofs.Alike.{no_tuple_alike}
use Rattle.ufmt_parser.proofs.Naming.{no_tuple, tuple_leaves}
use Rattle.ufmt_parser.proofs.by_count.tuples.many.parse_tuple_10.Goals as goal

pub returns-clause-values : goal.returns-clause-values
returns-clause-values g c = IfOk-weaker c.parse_tuple.result _ _
    (λ v (is_a, (is_b, (is_c, (is_d, (is_e, (is_f, (is_g, (is_h, (is_i, (is_j, none)))))))))). (is_a, is_b, is_c, is_d, is_e, is_f, is_g, is_h, is_i, is_j))
    c.parse_tuple.ensures.values

pub returns-clause-taken : goal.returns-clause-taken
returns-clause-taken g c = c.parse_tuple.ensures.taken

pub returns-clause-only : goal.returns-clause-only
returns-clause-only g c = IfOk-weaker c.parse_tuple.result _ _
    (λ _ only _ a_value b_value c_value d_value e_value f_value g_value h_value i_value j_value same is_a is_b is_c is_d is_e is_f is_g is_h is_i is_j.
    tuple_leaves _ _ _ _ _ _
    (only (a_value, b_value, c_value, d_value, e_value, f_value, g_value, h_value, i_value, j_value)
    (is_a, (is_b, (is_c, (is_d, (is_e, (is_f, (is_g, (is_h, (is_i, (is_j, tt))))))))))) same)
    c.parse_tuple.ensures.only

pub returns-clause-none : goal.returns-clause-none
returns-clause-none g c = IfErr-weaker c.parse_tuple.result _ _
    (λ _ none is_not _ a_value b_value c_value d_value e_value f_value g_value h_value i_value j_value same is_a is_b is_c is_d is_e is_f is_g is_h is_i is_j.
    no_tuple _ _ _ _ _
    (none is_not (a_value, b_value, c_value, d_value, e_value, f_value, g_value, h_value, i_value, j_value)
    (is_a, (is_b, (is_c, (is_d, (is_e, (is_f, (is_g, (is_h, (is_i, (is_j, tt))))))))))) same)
    c.parse_tuple.ensures.none

pub returns-clause-alike : goal.returns-clause-alike
returns-clause-alike g c = IfErr-weaker c.parse_tuple.result _ _
    (λ _ none is_not other others a_value b_value c_value d_value e_value f_value g_value h_value i_value j_value named same is_a is_b is_c is_d is_e is_f is_g is_h is_i is_j.
    no_tuple_alike _ _ _ _
    (none is_not (a_value, b_value, c_value, d_value, e_value, f_value, g_value, h_value, i_value, j_value)
    (is_a, (is_b, (is_c, (is_d, (is_e, (is_f, (is_g, (is_h, (is_i, (is_j, tt))))))))))) other others named same)
    c.parse_tuple.ensures.none

pub returns-clause-memory : goal.returns-clause-memory
returns-clause-memory g c = λ none. c.parse_tuple.ensures.memory (none.0, (none.1, (none.2, (none.3, (none.4, (none.5, (none.6, (none.7, (none.8, (none.9, tt))))))))))

pub returns-clause-blocks : goal.returns-clause-blocks
returns-clause-blocks g c = c.parse_tuple.ensures.blocks

pub returns-clause-shrinks : goal.returns-clause-shrinks
returns-clause-shrinks g c = c.parse_tuple.ensures.shrinks
