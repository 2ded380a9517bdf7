-- What is expected where a text stops fitting.
use Rattle.std.specs.Prelude.{List, ℕ, codes}
use Rattle.ufmt_parser.specs.declared.need.Need.{Need}
use Rattle.ufmt_parser.specs.declared.need.Need.TheVariants as need
use Rattle.ufmt_parse.specs.declared.expected.Expected.{Expected}
use Rattle.ufmt_parse.specs.declared.expected.Expected.TheVariants.{Name, Number, Character, Text, Punctuation, Order, Count, End}

-- what is missing inside a value is expected there
abbrev pub expected_of : Need → Expected
expected_of need.Name = Name
expected_of need.Number = Number
expected_of need.Character = Character
expected_of need.Text = Text
expected_of need.Punctuation = Punctuation
expected_of need.Order = Order
expected_of need.Count = Count

-- how it reads after the word `expected`
abbrev pub expected_words : Expected → List ℕ
expected_words Name = codes "a name of the type"
expected_words Number = codes "a number of the type"
expected_words Character = codes "a character in apostrophes"
expected_words Text = codes "a text in quotation marks"
expected_words Punctuation = codes "punctuation"
expected_words Order = codes "keys in ascending order"
expected_words Count = codes "another number of values or blocks"
expected_words End = codes "the end of the text"
