-- Examples of outputs, computed.
use Rattle.std.proofs.Common.{◌≡◌, codes, refl}
use Rattle.std.specs.Str.{chars, is_utf8}
use Rattle.ufmt_grammar.specs.Reading.{read, read_rest}
use Rattle.ufmt_grammar.specs.ReadingQuoted.{read_quoted}
use Rattle.ufmt_lines.specs.OutputLaws.{plain_with, pretty_with}
use Rattle.ufmt_lines.specs.Values.{convert_from, output_of}

-- a list stays as it is made plain, is laid out, and comes back
list_stays : output_of (plain_with 0) (codes "a [1, 2]") ≡ codes "a [1, 2]"
unfolding convert_from read read_rest read_quoted is_utf8 chars lib.Utf8.encode
list_stays = refl

list_is_laid_out : output_of (pretty_with 0) (codes "a [1, 2]") ≡ codes "a [\n    1,\n    2,\n]"
unfolding convert_from read read_rest read_quoted is_utf8 chars lib.Utf8.encode
list_is_laid_out = refl

list_comes_back : output_of (plain_with 0) (codes "a [\n    1,\n    2,\n]") ≡ codes "a [1, 2]"
unfolding convert_from read read_rest read_quoted is_utf8 chars lib.Utf8.encode
list_comes_back = refl

-- it isn't laid out if it is short enough
short_list_stays : output_of (pretty_with 6) (codes "a [1, 2]") ≡ codes "a [1, 2]"
unfolding convert_from read read_rest read_quoted is_utf8 chars lib.Utf8.encode
short_list_stays = refl

-- a map after a word, whose first key could be a field's name, isn't either: it would come back as a struct
map_stays : output_of (pretty_with 0) (codes "m {a: 1, b: 2}") ≡ codes "m {a: 1, b: 2}"
unfolding convert_from read read_rest read_quoted is_utf8 chars lib.Utf8.encode
map_stays = refl

-- a value may follow another
two_are_laid_out : output_of (pretty_with 0) (codes "[1, 2]{b, c}") ≡ codes "[\n    1,\n    2,\n]{\n    b,\n    c,\n}"
unfolding convert_from read read_rest read_quoted is_utf8 chars lib.Utf8.encode
two_are_laid_out = refl
