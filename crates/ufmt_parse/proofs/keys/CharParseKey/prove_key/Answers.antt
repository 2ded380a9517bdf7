use Rattle.std.proofs.Common.{◌≡◌, ◌∙◌, ap, sym, List, ℕ, [], ◌++◌}
use Rattle.std.proofs.lemmas.Cmp.{nat_cmp_total, tied_itself}
use Rattle.std.specs.Ordering.{nat_cmp}
use Rattle.ufmt.specs.Quoted.{quoted_char}
use Rattle.ufmt_grammar.proofs.QuotedOneWay.{quoted_char_determines}
use Rattle.ufmt_parse.proofs.keys.CharParseKey.prove_key.Goals as goal

pub returns : goal.returns
returns g c = λ x y is_x is_y same.
    let texts : quoted_char x ≡ quoted_char y = cc in
    let equal = quoted_char_determines x y [] [] is_x is_y (ap (λ (t : List ℕ). t ++ []) texts) in
    ap (nat_cmp x) (sym equal.0) ∙ tied_itself nat_cmp_total x
