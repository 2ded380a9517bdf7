-- `x generate` writes this file: change its template in tools/data/by_count.
use Rattle.std.proofs.Common.{[], ◌∷◌, refl}
use Rattle.std.proofs.lemmas.Result.{IfErr-weaker, IfOk-weaker}
use Rattle.ufmt_parser.proofs.Alike.{no_struct_alike}
use Rattle.ufmt_parser.proofs.Naming.{no_struct, struct_leaves}
use Rattle.ufmt_parser.proofs.Words.{names_are}
use Rattle.ufmt_parser.proofs.by_count.structs.few.parse_struct_6.Goals as goal

pub parse_struct-requires-clause-named : goal.parse_struct-requires-clause-named
parse_struct-requires-clause-named g c = names_are
    (c.args.name.now ∷ c.args.a.now ∷ c.args.b.now ∷ c.args.c.now ∷ c.args.d.now ∷ c.args.e.now ∷ c.args.f.now ∷ [])
    (c.utf8.name, (c.utf8.a, (c.utf8.b, (c.utf8.c, (c.utf8.d, (c.utf8.e, (c.utf8.f, tt))))))) c.requires.named

pub parse_struct-requires-clause-counted : goal.parse_struct-requires-clause-counted
parse_struct-requires-clause-counted g c = λ v. refl

pub returns-clause-values : goal.returns-clause-values
returns-clause-values g c = IfOk-weaker c.parse_struct.result _ _
    (λ v (is_a, (is_b, (is_c, (is_d, (is_e, (is_f, none)))))). (is_a, is_b, is_c, is_d, is_e, is_f))
    c.parse_struct.ensures.values

pub returns-clause-taken : goal.returns-clause-taken
returns-clause-taken g c = c.parse_struct.ensures.taken

pub returns-clause-only : goal.returns-clause-only
returns-clause-only g c = IfOk-weaker c.parse_struct.result _ _
    (λ _ only _ _ _ _ _ _ _ a_value b_value c_value d_value e_value f_value same is_a is_b is_c is_d is_e is_f.
    struct_leaves _ _ _ _ _ _ _
    (only (a_value, b_value, c_value, d_value, e_value, f_value)
    (is_a, (is_b, (is_c, (is_d, (is_e, (is_f, tt))))))) same refl)
    c.parse_struct.ensures.only

pub returns-clause-none : goal.returns-clause-none
returns-clause-none g c = IfErr-weaker c.parse_struct.result _ _
    (λ _ none is_not _ _ _ _ _ _ _ a_value b_value c_value d_value e_value f_value same is_a is_b is_c is_d is_e is_f.
    no_struct _ _ _ _ _ _
    (none is_not (a_value, b_value, c_value, d_value, e_value, f_value)
    (is_a, (is_b, (is_c, (is_d, (is_e, (is_f, tt))))))) same refl)
    c.parse_struct.ensures.none

pub returns-clause-alike : goal.returns-clause-alike
returns-clause-alike g c = IfErr-weaker c.parse_struct.result _ _
    (λ _ none is_not other others a_value b_value c_value d_value e_value f_value named same is_a is_b is_c is_d is_e is_f.
    no_struct_alike _ _ _ _
    (none is_not (a_value, b_value, c_value, d_value, e_value, f_value)
    (is_a, (is_b, (is_c, (is_d, (is_e, (is_f, tt))))))) other others named same)
    c.parse_struct.ensures.none

pub returns-clause-memory : goal.returns-clause-memory
returns-clause-memory g c = λ none. c.parse_struct.ensures.memory (none.0, (none.1, (none.2, (none.3, (none.4, (none.5, tt))))))

pub returns-clause-blocks : goal.returns-clause-blocks
returns-clause-blocks g c = c.parse_struct.ensures.blocks

pub returns-clause-shrinks : goal.returns-clause-shrinks
returns-clause-shrinks g c = c.parse_struct.ensures.shrinks
