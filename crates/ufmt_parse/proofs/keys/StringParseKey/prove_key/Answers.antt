use Rattle.std.proofs.Common.{◌≡◌, ◌∙◌, ap, sym, List, ℕ, [], ◌++◌, string_bytes}
use Rattle.std.proofs.lemmas.Cmp.{nat_list_cmp_total, tied_itself}
use Rattle.std.proofs.lemmas.Str.{IsUtf8-string_bytes, encodes-chars, scalars-chars}
use Rattle.std.specs.Cmp.Lexicographic.{slice_cmp}
use Rattle.std.specs.Ordering.{nat_cmp}
use Rattle.std.specs.Str.{chars, encode_utf8_all}
use Rattle.ufmt.specs.Quoted.{quoted_text}
use Rattle.ufmt_grammar.proofs.QuotedOneWay.{quoted_text_determines}
use Rattle.ufmt_parse.proofs.keys.StringParseKey.prove_key.Goals as goal

pub returns : goal.returns
returns g c = λ x y _ _ same.
    let texts : quoted_text (chars (string_bytes x)) ≡ quoted_text (chars (string_bytes y)) = cc in
    let utf8_x = IsUtf8-string_bytes x in
    let utf8_y = IsUtf8-string_bytes y in
    let equal = quoted_text_determines _ _ [] [] (scalars-chars _ utf8_x) (scalars-chars _ utf8_y) (ap (λ (t : List ℕ). t ++ []) texts) in
    let bytes = sym (encodes-chars _ utf8_y) ∙ ap encode_utf8_all (sym equal.0) ∙ encodes-chars _ utf8_x in
    ap (slice_cmp nat_cmp (string_bytes x)) bytes ∙ tied_itself nat_list_cmp_total (string_bytes x)
