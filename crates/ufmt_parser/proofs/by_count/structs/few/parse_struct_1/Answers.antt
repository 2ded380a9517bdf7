-- `x generate` writes this file: change its template in tools/data/by_count.
use Rattle.std.proofs.Common.{[], ◌∷◌, refl}
use Rattle.ufmt_parser.proofs.Alike.{no_struct_alike}
use Rattle.ufmt_parser.proofs.Naming.{no_struct, struct_leaves}
use Rattle.ufmt_parser.proofs.Words.{names_are}
use Rattle.ufmt_parser.proofs.by_count.structs.few.parse_struct_1.Goals as goal

pub parse_struct-requires-clause-named : goal.parse_struct-requires-clause-named
parse_struct-requires-clause-named g c = names_are
    (c.args.name.now ∷ c.args.a.now ∷ [])
    (c.utf8.name, (c.utf8.a, tt)) c.requires.named

pub returns-in-Err-clause-none : goal.returns-in-Err-clause-none
returns-in-Err-clause-none g c = λ is_not _ _ a_value same is_a. no_struct _ _ _ _ _ _
    (c.in-Err.ensures.none is_not (record { 0 = a_value }) (is_a, tt)) same refl

pub returns-in-Err-clause-alike : goal.returns-in-Err-clause-alike
returns-in-Err-clause-alike g c = λ is_not other others a_value named same is_a. no_struct_alike _ _ _ _
    (c.in-Err.ensures.none is_not (record { 0 = a_value }) (is_a, tt)) other others named same

pub returns-in-Ok-clause-only : goal.returns-in-Ok-clause-only
returns-in-Ok-clause-only g c = λ _ _ a_value same is_a. struct_leaves _ _ _ _ _ _ _
    (c.in-Ok.ensures.only (record { 0 = a_value }) (is_a, tt)) same refl
