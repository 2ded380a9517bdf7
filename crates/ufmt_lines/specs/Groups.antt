-- The groups of an input's lines that are converted together.
use Rattle.std.specs.Prelude.{◌≡◌, ◌≢◌, ℕ, ◌-◌, ◌==◌, ◌||◌, ◌&&◌, nat_lt, cond, if◌then◌else◌, not, Bool, false, List, [], ◌∷◌, ◌++◌, drop, take, length, slice_index_or}
use Rattle.std.specs.List.{All, flat_map, onto_first}
use Rattle.ufmt.specs.Bytes.{line_feed, opening_brace, space}
use Rattle.ufmt.specs.Leaves.{begins_with, is_opening}
use Rattle.ufmt_core.specs.declared.layout.Mode.{Mode}
use Rattle.ufmt_core.specs.declared.layout.Mode.TheVariants.{Plain, Pretty}
use Rattle.ufmt_values.specs.Values.{run_start}

-- no byte is a line feed
abbrev pub IsInLine : List ℕ → Type 0
IsInLine text = All (λ byte. byte ≢ line_feed) text

-- the lines of a text, each with its line feed; the last line may have none
abbrev pub ended_lines : List ℕ → List (List ℕ)
ended_lines [] = []
ended_lines (byte ∷ text) = cond (byte == line_feed) ((byte ∷ []) ∷ ended_lines text) (onto_first byte (ended_lines text))

-- whether a line ends with an opening bracket and a line feed
abbrev pub opens : List ℕ → Bool
opens line = (slice_index_or line (length line - 1) 0 == line_feed) && is_opening (slice_index_or line (length line - 2) 0)

-- whether a line begins with a space
abbrev pub is_indented : List ℕ → Bool
is_indented line = begins_with space line

-- whether a brace is here, after a space
abbrev pub is_spaced_brace : List ℕ → ℕ → Bool
is_spaced_brace line bracket = (slice_index_or line bracket 0 == opening_brace) && (slice_index_or line (bracket - 1) 0 == space)

-- where the word of this bracket begins: the bytes of a name before it, or before the space before a brace
abbrev pub word_start : List ℕ → ℕ → ℕ
word_start line bracket = run_start line 0 (if is_spaced_brace line bracket then bracket - 1 else bracket)

-- what is before the word of the bracket that the line ends with, and the rest of the line
abbrev pub cut_before_word : List ℕ → List (List ℕ)
cut_before_word line = let start = word_start line (length line - 2) in take start line ∷ drop start line ∷ []

-- the pieces of a line that is made plain: it is cut if no bracket that is open before it can be closed after it
abbrev pub pieces_of_line : List ℕ → List (List ℕ)
pieces_of_line line = if opens line && not (is_indented line) then cut_before_word line else line ∷ []

-- the pieces of a text. Where texts are made pretty, they are its lines
abbrev pub pieces_of : Mode → List ℕ → List (List ℕ)
pieces_of Pretty text = ended_lines text
pieces_of Plain text = flat_map pieces_of_line (ended_lines text)

-- whether a group continues after this piece, which follows what is in the group so far: a pretty text continues after an opening bracket, and then after an indented line
abbrev pub continues : Mode → List ℕ → List ℕ → Bool
continues Pretty group piece = false
continues Plain group piece = opens piece || (nat_lt 0 (length group) && is_indented piece)

-- a group, if there is any of it
abbrev pub if_any : List ℕ → List (List ℕ)
if_any [] = []
if_any (byte ∷ group) = (byte ∷ group) ∷ []

-- the groups of pieces that follow what is in a group so far
unfoldable pub grouped : Mode → List ℕ → List (List ℕ) → List (List ℕ)
grouped mode group [] = if_any group
grouped mode group (piece ∷ pieces) = if continues mode group piece then grouped mode (group ++ piece) pieces else if_any (group ++ piece) ++ grouped mode [] pieces

-- the groups of a text that is converted to this mode. Put together, they are the text
abbrev pub groups_of : Mode → List ℕ → List (List ℕ)
groups_of mode text = grouped mode [] (pieces_of mode text)

-- these groups are the first of a text before this rest, whatever follows the rest
abbrev pub AreFirstGroups : Mode → List (List ℕ) → List ℕ → List ℕ → Type 0
AreFirstGroups mode groups text rest = (more : List ℕ) → groups_of mode (text ++ more) ≡ groups ++ groups_of mode (rest ++ more)

-- no group has ended in a text: a space after it is in the same group
abbrev pub IsInGroup : Mode → List ℕ → Type 0
IsInGroup mode text = groups_of mode (text ++ space ∷ []) ≡ (text ++ space ∷ []) ∷ []
