-- Examples of groups of lines, computed.
use Rattle.std.proofs.Common.{◌≡◌, [], ◌∷◌, codes, refl}
use Rattle.ufmt_core.specs.declared.layout.Mode.TheVariants.{Plain, Pretty}
use Rattle.ufmt_lines.specs.Groups.{IsInGroup, grouped, groups_of}

-- where texts are made pretty, each line is a group
pretty_lines : groups_of Pretty (codes "a [\n    1,\n]") ≡ codes "a [\n" ∷ codes "    1,\n" ∷ codes "]" ∷ []
unfolding grouped
pretty_lines = refl

-- a pretty text is one group, and the line after it is another
plain_block : groups_of Plain (codes "a [\n    1,\n]\nb") ≡ codes "a " ∷ codes "[\n    1,\n]\n" ∷ codes "b" ∷ []
unfolding grouped
plain_block = refl

-- a line that neither ends with an opening bracket nor is inside of a group is a group by itself
plain_lines : groups_of Plain (codes "a\n  b\n]\n") ≡ codes "a\n" ∷ codes "  b\n" ∷ codes "]\n" ∷ []
unfolding grouped
plain_lines = refl

-- lines that all end with an opening bracket are as many groups, and what is before the word of the first bracket is one
plain_openings : groups_of Plain (codes "x a {\nb {\nc(\n{\n") ≡ codes "x " ∷ codes "a {\n" ∷ codes "b {\n" ∷ codes "c(\n" ∷ codes "{\n" ∷ []
unfolding grouped
plain_openings = refl

-- what follows a value belongs to its group, up to the word of the next bracket
plain_next : groups_of Plain (codes "a[\n    1,\n] b [\n    2,\n]") ≡ codes "a[\n    1,\n] b " ∷ codes "[\n    2,\n]" ∷ []
unfolding grouped
plain_next = refl

-- in a group, a line that ends with a brace and begins with the brace's word begins another
plain_inside : groups_of Plain (codes "a [\n    b,\na {\n    c: d,\n}\n") ≡ codes "a " ∷ codes "[\n    b,\n" ∷ codes "a {\n    c: d,\n}\n" ∷ []
unfolding grouped
plain_inside = refl

-- an indented line isn't cut, and is in the group also if it ends with a bracket
plain_indented : groups_of Plain (codes "  a [\n  b c(\n  d\n  e {\nf") ≡ codes "  a [\n  b c(\n  d\n  e {\nf" ∷ []
unfolding grouped
plain_indented = refl

-- an empty line ends a group
plain_empty : groups_of Plain (codes "a(\n\n  b") ≡ codes "a(\n\n" ∷ codes "  b" ∷ []
unfolding grouped
plain_empty = refl

-- the input may end in a group
plain_open : groups_of Plain (codes "a[\n  b") ≡ codes "a[\n  b" ∷ []
unfolding grouped
plain_open = refl

-- a bracket with no line feed after it cuts no line
plain_end : groups_of Plain (codes "b\na [") ≡ codes "b\n" ∷ codes "a [" ∷ []
unfolding grouped
plain_end = refl

-- no group has ended in a text whose last line hasn't ended, and none before a bracket that is read so far
in_group : IsInGroup Plain (codes "a(\n  b\n] c [")
unfolding grouped
in_group = refl

-- a text that is empty has no group
no_group : groups_of Plain [] ≡ []
unfolding grouped
no_group = refl
