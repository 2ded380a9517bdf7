-- Bytes of ASCII by their names.
use Rattle.std.specs.Prelude.{ℕ}

abbrev pub nul : ℕ
nul = 0

abbrev pub tab : ℕ
tab = 9

abbrev pub line_feed : ℕ
line_feed = 10

abbrev pub carriage_return : ℕ
carriage_return = 13

abbrev pub space : ℕ
space = 32

abbrev pub quotation_mark : ℕ
quotation_mark = 34

abbrev pub apostrophe : ℕ
apostrophe = 39

abbrev pub opening_parenthesis : ℕ
opening_parenthesis = 40

abbrev pub closing_parenthesis : ℕ
closing_parenthesis = 41

abbrev pub comma : ℕ
comma = 44

abbrev pub hyphen : ℕ
hyphen = 45

abbrev pub zero_digit : ℕ
zero_digit = 48

abbrev pub nine_digit : ℕ
nine_digit = 57

abbrev pub colon : ℕ
colon = 58

abbrev pub upper_a : ℕ
upper_a = 65

abbrev pub upper_z : ℕ
upper_z = 90

abbrev pub opening_bracket : ℕ
opening_bracket = 91

abbrev pub backslash : ℕ
backslash = 92

abbrev pub closing_bracket : ℕ
closing_bracket = 93

abbrev pub underscore : ℕ
underscore = 95

abbrev pub lower_a : ℕ
lower_a = 97

abbrev pub lower_n : ℕ
lower_n = 110

abbrev pub lower_r : ℕ
lower_r = 114

abbrev pub lower_t : ℕ
lower_t = 116

abbrev pub lower_u : ℕ
lower_u = 117

abbrev pub lower_z : ℕ
lower_z = 122

abbrev pub opening_brace : ℕ
opening_brace = 123

abbrev pub closing_brace : ℕ
closing_brace = 125

abbrev pub delete : ℕ
delete = 127
