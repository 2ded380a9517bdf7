-- What a parser takes from the front of a text.
use Rattle.std.specs.Prelude.{◌≡◌, ◌≢◌, ℕ, ◌+◌, ◌≤◌, Bool, List, ◌++◌, MatchBool, Result, Ok, Err, ⊤}
use Rattle.ufmt_core.specs.Document.{Document, nest}
use Rattle.ufmt_core.specs.Layout.{layout}
use Rattle.ufmt_core.specs.declared.layout.Mode.{Mode}
use Rattle.ufmt_grammar.specs.declared.class.Class.TheVariants.{Debug}
use Rattle.ufmt_grammar.specs.Leaves.{MayFollow}
use Rattle.ufmt_grammar.specs.Token.{IsBuilt}
pub use Rattle.ufmt_scan.specs.Depth.{depth_in, setting_in}
use Rattle.ufmt_parser.specs.declared.parser.Parser.{Parser}
use Rattle.ufmt_parser.specs.declared.parser.Fault.{Fault}
use Rattle.ufmt_parser.specs.declared.parser.Fault.TheVariants.{NotText, OutOfMemory}

-- what is left of a parser's text
abbrev pub rest : {M : Type 0} → Parser M → List ℕ
rest parser = parser.rest.now

-- how many blocks are open there
abbrev pub open_blocks : {M : Type 0} → Parser M → ℕ
open_blocks parser = parser.open_blocks

-- a debug document that may be inside so many blocks
abbrev pub Fits : ℕ → Document → Type 0
Fits blocks d = IsBuilt Debug d × (nest d + blocks ≤ 255)

-- the text doesn't begin with this piece
abbrev pub DoesNotBegin : List ℕ → List ℕ → Type 0
DoesNotBegin piece old = (u : List ℕ) → old ≢ piece ++ u

-- a piece is taken from the front if it is there
abbrev pub Eats : List ℕ → List ℕ → Bool → List ℕ → Type 0
Eats piece old eaten new = MatchBool eaten (old ≡ piece ++ new) (DoesNotBegin piece old)

-- if a value's text is here, and a text that may follow it, that text is what is left
abbrev pub LeavesOnly : {T : Type 0} → (T → Type 0) → (T → List ℕ) → List ℕ → List ℕ → Type 0
LeavesOnly {T} is text_of old new = (w : T) (u : List ℕ) → is w → MayFollow Debug u → old ≡ text_of w ++ u → u ≡ new

-- no value's text is here with a text that may follow it
abbrev pub BeginsWithNone : {T : Type 0} → (T → Type 0) → (T → List ℕ) → List ℕ → Type 0
BeginsWithNone {T} is text_of old = (w : T) (u : List ℕ) → is w → MayFollow Debug u → old ≢ text_of w ++ u

module _ {T : Type 0} (is : T → Type 0) (text_of : T → List ℕ) where
  -- by cases of the outcome
  abbrev pub TakesBy : List ℕ → Result T Fault → List ℕ → Type 0
  TakesBy old (Ok v) new = (old ≡ text_of v ++ new) × is v × LeavesOnly is text_of old new
  TakesBy old (Err NotText) new = BeginsWithNone is text_of old
  TakesBy old (Err OutOfMemory) new = ⊤

  -- a value's text is taken, or there is none
  pub record Takes (old : List ℕ) (outcome : Result T Fault) (new : List ℕ) : Type 0 where
    pub cases : TakesBy old outcome new

-- ---- a document's text, in the mode of a parser's text and in the blocks that are open there

-- the parser took the text of this document
abbrev pub IsTaken : {M : Type 0} → Mode → Parser M → Document → Parser M → Type 0
IsTaken mode old d new = (rest old ≡ layout (setting_in mode (open_blocks old)) d ++ rest new) × Fits (open_blocks old) d

-- the text of this document comes next, and then a text that may follow it
abbrev pub IsNext : {M : Type 0} → Mode → Parser M → Document → List ℕ → Type 0
IsNext mode parser d u = Fits (open_blocks parser) d × MayFollow Debug u × (rest parser ≡ layout (setting_in mode (open_blocks parser)) d ++ u)
