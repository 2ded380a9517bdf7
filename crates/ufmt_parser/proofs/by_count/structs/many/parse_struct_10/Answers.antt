-- `x generate` writes this file: change its template in tools/data/by_count.
use Rattle.std.proofs.Common.{[], ◌∷◌, refl}
use Rattle.std.proofs.lemmas.Result.{IfErr-weaker, IfOk-weaker}
use Rattle.ufmt_parser.proofs.Alike.{no_struct_alike}
use Rattle.ufmt_parser.proofs.Naming.{no_struct, struct_leaves}
use Rattle.ufmt_parser.proofs.Words.{names_are}
use Rattle.ufmt_parser.proofs.by_count.structs.many.parse_struct_10.Goals as goal

pub parse_struct-requires-clause-named : goal.parse_struct-requires-clause-named
parse_struct-requires-clause-named g c = names_are
    (c.args.name.now ∷ c.args.a.now ∷ c.args.b.now ∷ c.args.c.now ∷ c.args.d.now ∷ c.args.e.now ∷ c.args.f.now ∷ c.args.g.now ∷ c.args.h.now ∷ c.args.i.now ∷ c.args.j.now ∷ [])
    (c.utf8.name, (c.utf8.a, (c.utf8.b, (c.utf8.c, (c.utf8.d, (c.utf8.e, (c.utf8.f, (c.utf8.g, (c.utf8.h, (c.utf8.i, (c.utf8.j, tt))))))))))) c.requires.named

pub parse_struct-requires-clause-counted : goal.parse_struct-requires-clause-counted
parse_struct-requires-clause-counted g c = λ v. refl

pub returns-clause-values : goal.returns-clause-values
returns-clause-values g c = IfOk-weaker c.parse_struct.result _ _
    (λ v (is_a, (is_b, (is_c, (is_d, (is_e, (is_f, (is_g, (is_h, (is_i, (is_j, none)))))))))). (is_a, is_b, is_c, is_d, is_e, is_f, is_g, is_h, is_i, is_j))
    c.parse_struct.ensures.values

pub returns-clause-taken : goal.returns-clause-taken
returns-clause-taken g c = c.parse_struct.ensures.taken

pub returns-clause-only : goal.returns-clause-only
returns-clause-only g c = IfOk-weaker c.parse_struct.result _ _
    (λ _ only _ _ _ _ _ _ _ _ _ _ _ a_value b_value c_value d_value e_value f_value g_value h_value i_value j_value same is_a is_b is_c is_d is_e is_f is_g is_h is_i is_j.
    struct_leaves _ _ _ _ _ _ _
    (only (a_value, b_value, c_value, d_value, e_value, f_value, g_value, h_value, i_value, j_value)
    (is_a, (is_b, (is_c, (is_d, (is_e, (is_f, (is_g, (is_h, (is_i, (is_j, tt))))))))))) same refl)
    c.parse_struct.ensures.only

pub returns-clause-none : goal.returns-clause-none
returns-clause-none g c = IfErr-weaker c.parse_struct.result _ _
    (λ _ none is_not _ _ _ _ _ _ _ _ _ _ _ a_value b_value c_value d_value e_value f_value g_value h_value i_value j_value same is_a is_b is_c is_d is_e is_f is_g is_h is_i is_j.
    no_struct _ _ _ _ _ _
    (none is_not (a_value, b_value, c_value, d_value, e_value, f_value, g_value, h_value, i_value, j_value)
    (is_a, (is_b, (is_c, (is_d, (is_e, (is_f, (is_g, (is_h, (is_i, (is_j, tt))))))))))) same refl)
    c.parse_struct.ensures.none

pub returns-clause-alike : goal.returns-clause-alike
returns-clause-alike g c = IfErr-weaker c.parse_struct.result _ _
    (λ _ none is_not other others a_value b_value c_value d_value e_value f_value g_value h_value i_value j_value named same is_a is_b is_c is_d is_e is_f is_g is_h is_i is_j.
    no_struct_alike _ _ _ _
    (none is_not (a_value, b_value, c_value, d_value, e_value, f_value, g_value, h_value, i_value, j_value)
    (is_a, (is_b, (is_c, (is_d, (is_e, (is_f, (is_g, (is_h, (is_i, (is_j, tt))))))))))) other others named same)
    c.parse_struct.ensures.none

pub returns-clause-memory : goal.returns-clause-memory
returns-clause-memory g c = λ none. c.parse_struct.ensures.memory (none.0, (none.1, (none.2, (none.3, (none.4, (none.5, (none.6, (none.7, (none.8, (none.9, tt))))))))))

pub returns-clause-blocks : goal.returns-clause-blocks
returns-clause-blocks g c = c.parse_struct.ensures.blocks

pub returns-clause-shrinks : goal.returns-clause-shrinks
returns-clause-shrinks g c = c.parse_struct.ensures.shrinks
