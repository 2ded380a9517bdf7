-- The arguments after the program's name.
use Rattle.std.specs.Prelude.{ℕ, ◌+◌, ◌-◌, ◌*◌, ◌^◌, ◌==◌, ◌&&◌, ◌||◌, is_some, nat_le, nat_lt, if◌then◌else◌, Bool, true, false, List, [], ◌∷◌, ◌++◌, codes, length, slice_index_or, Option, Some, None, Result, Ok, Err}
use Rattle.std.specs.Str.{bytes_eq}
use Rattle.ufmt_grammar.specs.Parse.{strip}
use Rattle.ufmt_core.specs.declared.layout.Mode.TheVariants.{Plain as ToPlain, Pretty as ToPretty}
use Rattle.ufmt_lines.specs.declared.run.arguments.Mistake.{Mistake}
use Rattle.ufmt_lines.specs.declared.run.arguments.Request.{Request}
use Rattle.ufmt_lines.specs.declared.run.arguments.Request.TheVariants.{Convert, Help, Version}
use Rattle.ufmt_lines.specs.declared.run.arguments.Word.{Word}
use Rattle.ufmt_lines.specs.declared.run.arguments.Word.TheVariants.{File, Last, LongerThan, LongerThanIs, OfHelp, OfVersion, Plain, Unknown}

-- an ASCII digit
abbrev pub is_digit : ℕ → Bool
is_digit c = nat_le 48 c && nat_le c 57

-- the number of these digits after those of `n`; None if a byte is no digit, or if it is 2^64 or more
abbrev pub digits_value : ℕ → List ℕ → Option ℕ
digits_value n [] = Some n
digits_value n (c ∷ t) = if is_digit c && nat_lt (n * 10 + (c - 48)) (2 ^ 64) then digits_value (n * 10 + (c - 48)) t else None

-- the number that decimal digits denote
abbrev pub decimal_value : List ℕ → Option ℕ
decimal_value [] = None
decimal_value (c ∷ t) = digits_value 0 (c ∷ t)

-- whether a word begins with a hyphen and has more
abbrev pub is_option : List ℕ → Bool
is_option word = nat_lt 1 (length word) && (slice_index_or word 0 0 == 45)

-- the number in the same word as its option, after an equals sign
abbrev pub limit_in : List ℕ → Option (List ℕ)
limit_in word = strip (codes "--longer-than=") word

-- this, or nothing
abbrev pub or_nothing : Option (List ℕ) → List ℕ
or_nothing None = []
or_nothing (Some number) = number

-- what a word is, if no word before it is `--`
unfoldable pub word_of : List ℕ → Word
word_of word =
    if bytes_eq word (codes "--plain") then Plain else
    if bytes_eq word (codes "--longer-than") then LongerThan else
    if bytes_eq word (codes "--help") || bytes_eq word (codes "-h") then OfHelp else
    if bytes_eq word (codes "--version") || bytes_eq word (codes "-V") then OfVersion else
    if bytes_eq word (codes "--") then Last else
    if is_some (limit_in word) then LongerThanIs else
    if is_option word then Unknown else File

-- texts of more bytes become pretty, if nothing else is said
abbrev pub usual_limit : ℕ
usual_limit = 40

-- what is asked for, with `--plain` or without, and with a limit or without; the line of a mistake
abbrev pub conversion_of : Bool → Option ℕ → Result Request (List ℕ)
conversion_of false None = Ok (Convert (record { to = ToPretty; longer_than = usual_limit }))
conversion_of false (Some n) = Ok (Convert (record { to = ToPretty; longer_than = n }))
conversion_of true None = Ok (Convert (record { to = ToPlain; longer_than = usual_limit }))
conversion_of true (Some n) = Err (codes "ufmt_lines: --longer-than doesn't go with --plain")

-- what is asked for after this number; the line of a mistake if the word has none
abbrev pub within : Option ℕ → List ℕ → (ℕ → Result Request (List ℕ)) → Result Request (List ℕ)
within None word asked = Err (codes "ufmt_lines: --longer-than needs a number below 2^64 in decimal digits, not: " ++ word)
within (Some n) word asked = asked n

-- what the words ask for, if a number must come first or not, and after `--plain` or not, and a limit or none; the line of the first mistake
abbrev pub asked_after : Bool → Bool → Option ℕ → List (List ℕ) → Result Request (List ℕ)
asked_after true plain limit [] = Err (codes "ufmt_lines: --longer-than needs a number")
asked_after true plain limit (number ∷ words) = within (decimal_value number) number (λ n. asked_after false plain (Some n) words)
asked_after false plain limit [] = conversion_of plain limit
asked_after false plain limit (word ∷ words) = elim (word_of word) [
  | File ↦ asked_after false plain limit words
  | Plain ↦ asked_after false true limit words
  | LongerThan ↦ asked_after true plain limit words
  | LongerThanIs ↦ within (decimal_value (or_nothing (limit_in word))) word (λ n. asked_after false plain (Some n) words)
  | OfHelp ↦ Ok Help
  | OfVersion ↦ Ok Version
  | Last ↦ conversion_of plain limit
  | Unknown ↦ Err (codes "ufmt_lines: unknown option: " ++ word)
]

-- what the words ask for
abbrev pub asked_of : List (List ℕ) → Result Request (List ℕ)
asked_of words = asked_after false false None words

-- the words that name files: those that are neither an option nor its number, and all after `--`
abbrev pub files_after : Bool → List (List ℕ) → List (List ℕ)
files_after number [] = []
files_after true (number ∷ words) = files_after false words
files_after false (word ∷ words) = elim (word_of word) [
  | File ↦ word ∷ files_after false words
  | LongerThan ↦ files_after true words
  | LongerThanIs ↦ files_after false words
  | Last ↦ words
  | Plain ↦ files_after false words
  | OfHelp ↦ files_after false words
  | OfVersion ↦ files_after false words
  | Unknown ↦ files_after false words
]

-- these, or standard input if there are none
abbrev pub or_standard_input : List (List ℕ) → List (List ℕ)
or_standard_input [] = codes "-" ∷ []
or_standard_input (name ∷ names) = name ∷ names

-- the names of the inputs
abbrev pub inputs_of : List (List ℕ) → List (List ℕ)
inputs_of words = or_standard_input (files_after false words)

-- the line of a mistake: what is wrong, and the word
abbrev pub line_of_mistake : Mistake → List ℕ
line_of_mistake mistake = mistake.what.now ++ mistake.word.now
