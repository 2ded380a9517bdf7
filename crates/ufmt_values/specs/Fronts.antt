-- What may come before the first value of a line.
use Rattle.std.specs.Prelude.{◌≡◌, ◌==◌, ◌||◌, ℕ, true, false, List, [], drop, length}
use Rattle.std.specs.List.{All}
use Rattle.std.specs.Str.{is_utf8}
use Rattle.ufmt.specs.Bytes.{quotation_mark}
use Rattle.ufmt.specs.Leaves.{is_opening}
use Rattle.ufmt_grammar.specs.declared.class.Class.{Class}
use Rattle.ufmt_grammar.specs.declared.class.Class.TheVariants.{Token, Debug}
use Rattle.ufmt_values.specs.Values.{run_start}

-- no bracket opens in these bytes, and no text in quotes begins
abbrev pub OpensNothing : List ℕ → Type 0
OpensNothing front = All (λ byte. (is_opening byte || byte == quotation_mark) ≡ false) front

-- the bytes of a name that come last
abbrev pub last_word : List ℕ → List ℕ
last_word front = drop (run_start front 0 (length front)) front

-- a value with a name may come after these bytes. Their last word is a part of its name: `request=Request` is a name of a debug document, if it is UTF-8, and no name of a token document
abbrev pub MayNameFollow : Class → List ℕ → Type 0
MayNameFollow Token front = last_word front ≡ []
MayNameFollow Debug front = is_utf8 (last_word front) ≡ true
