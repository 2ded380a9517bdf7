-- The promises about shifted texts.
use Rattle.std.specs.Prelude.{◌≡◌, ℕ, ◌+◌, ◌≤◌, List, ◌++◌, codes}
use Rattle.ufmt_core.specs.Document.{Document, nest}
use Rattle.ufmt_core.specs.Layout.{setting, indentation, layout, pretty_text}
use Rattle.ufmt_core.specs.declared.layout.Mode.TheVariants.{Pretty}
use Rattle.ufmt_grammar.specs.Token.{Class, IsDocument}
use Rattle.ufmt_core.specs.Shift.{shift, shift_times, shifted, IsOneLine, HasNoLineFeed}

-- shifting puts four spaces before the first line and shifts the lines after it
abbrev pub ShiftMovesEachLine : Type 0
ShiftMovesEachLine = (line lines : List ℕ) → IsOneLine line → shift (line ++ (codes "\n" ++ lines)) ≡ codes "    " ++ (line ++ (codes "\n" ++ shift lines))

-- if a document has no line feed and reaches depth 255 at most from depth k, then its shifted text and a line feed, shifted k times,
-- are k indentations, its pretty text at depth k and a line feed
abbrev pub ShiftedAtDepth : Type 0
ShiftedAtDepth = (d : Document) (k : ℕ) → HasNoLineFeed d → nest d + k ≤ 255
    → shift_times k (shifted d ++ codes "\n") ≡ indentation k ++ (layout (setting Pretty k) d ++ codes "\n")

-- the shifted text of a document is its pretty text, if it has no line feed and is nested at most 255 deep
abbrev pub ShiftedIsPretty : Type 0
ShiftedIsPretty = (d : Document) → HasNoLineFeed d → nest d ≤ 255 → shifted d ≡ pretty_text d

-- no leaf, name or field name of a document of a class has a line feed
abbrev pub ClassesHaveNoLineFeed : Type 0
ClassesHaveNoLineFeed = (class : Class) (d : Document) → IsDocument class d → HasNoLineFeed d
