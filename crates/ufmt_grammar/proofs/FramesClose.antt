-- In each frame, the ending of a block differs from another entry, and an empty block from a block with entries.
use Rattle.std.proofs.Common.{◌≡◌, ◌≢◌, refl, ap, sym, ◌∙◌, ℕ, zero, suc, ◌≤◌, ◌+◌, min, ◌==◌, true, false, List, [], ◌∷◌, ◌++◌, None, codes, eqb-true, arith}
use Rattle.std.proofs.lemmas.Bool.{false_from_ne_true}
use Rattle.std.specs.Prelude.{⊤}
use Rattle.ufmt_core.specs.Bytes.{closing_brace, closing_bracket, closing_parenthesis, colon, comma, line_feed, space}
use Rattle.ufmt_core.specs.Layout.{frame, setting, inside, indentation, new_line, lead, ending, trail, next, block_tail}
use Rattle.ufmt_core.specs.declared.layout.Mode.{Mode}
use Rattle.ufmt_core.specs.declared.layout.Mode.TheVariants.{Plain, Pretty}
use Rattle.ufmt_core.specs.declared.layout.Setting.{Setting}
use Rattle.ufmt_core.specs.declared.layout.Kind.{Kind}
use Rattle.ufmt_core.specs.declared.layout.Kind.TheVariants.{Brackets, Braces, Struct, Tuple, Unnamed}
use Rattle.ufmt_core.specs.declared.layout.Count.{Count}
use Rattle.ufmt_core.specs.declared.layout.Count.TheVariants.{Zero, One, Several}
use Rattle.ufmt_grammar.specs.Leaves.{Class, Token, Debug, is_ender, IsName, MayFollow}
use Rattle.ufmt_grammar.specs.Token.{MayEndInDots}
use Rattle.ufmt_grammar.specs.Reading.{strip, strip_dots, strip_only_dots, last_dots, after_front}
use Rattle.ufmt_grammar.proofs.Parsing.{strip_joined, strip_of_none}
use Rattle.ufmt_grammar.proofs.ClassLeaves.{Begins, ender_follows, brace_follows, colon_follows, follower_ends_front, name_fronts}
use Rattle.ufmt_grammar.proofs.BlocksComplete.{Closes, StripsDots}

-- n nested blocks fit at depth k: in pretty mode the indentation stops growing at depth 255
abbrev pub FitsAt : Mode → ℕ → ℕ → Type 0
FitsAt Plain k n = ⊤
FitsAt Pretty k n = k + n ≤ 255

-- n nested blocks fit at this mode and depth
abbrev pub Fits : Setting → ℕ → Type 0
Fits s n = FitsAt s.mode s.depth n

pub fits_inside : (s : Setting) (n : ℕ) → Fits s (suc n) → Fits (inside s) n
fits_inside s n h = grind arith

pub fits_less : (s : Setting) (m n : ℕ) → m ≤ n → Fits s n → Fits s m
fits_less s m n less h = grind arith

ender_differs : (c b : ℕ) → is_ender c ≡ true → is_ender b ≡ false → (c == b) ≡ false
ender_differs c b hc hb = false_from_ne_true (c == b) (λ e. let same = eqb-true c b e in cc)

-- a text that begins with no ender is not stripped of one
pub ender_begins_none : (c : ℕ) (w : List ℕ) → is_ender c ≡ true → {t : List ℕ} → Begins t → strip (c ∷ w) t ≡ None
ender_begins_none c w h b = rw (b.is, ender_differs c b.first h b.no_ender) refl

-- an entry after a new line begins with no ender
pub begins_after : (mode : Mode) (k : ℕ) {t : List ℕ} → Begins t → Begins (new_line mode k ++ t)
begins_after Plain k b = b
begins_after Pretty k {t} b = record { first = 10; tail = indentation k ++ t; is = refl; no_ender = refl }

-- what holds of One and of Several holds of each next count
after_next : (P : Count → Type 0) → P One → P Several → (count : Count) → P (next count)
after_next P second later Zero = second
after_next P second later One = later
after_next P second later Several = later

-- k indentations and a byte that is no space are not k + 1 indentations
deeper : (k c : ℕ) (w u : List ℕ) → (32 == c) ≡ false → strip (indentation (suc k)) ((indentation k ++ (c ∷ w)) ++ u) ≡ None
deeper zero c w u e = rw e refl
deeper (suc k) c w u e = deeper k c w u e

-- in plain mode, the ending of a block may follow an entry
plain_follows : (class : Class) (kind : Kind) (k : ℕ) (count : Count) (u : List ℕ)
    → MayFollow class (ending (frame Plain kind) (setting Plain k) (next count) ++ u)
plain_follows class Brackets k count u = after_next (λ p. MayFollow class (ending (frame Plain Brackets) (setting Plain k) p ++ u))
    (ender_follows class closing_bracket u refl) (ender_follows class closing_bracket u refl) count
plain_follows class Braces k count u = after_next (λ p. MayFollow class (ending (frame Plain Braces) (setting Plain k) p ++ u))
    (ender_follows class closing_brace u refl) (ender_follows class closing_brace u refl) count
plain_follows class Struct k count u = after_next (λ p. MayFollow class (ending (frame Plain Struct) (setting Plain k) p ++ u))
    (brace_follows class u) (brace_follows class u) count
plain_follows class Tuple k count u = after_next (λ p. MayFollow class (ending (frame Plain Tuple) (setting Plain k) p ++ u))
    (ender_follows class closing_parenthesis u refl) (ender_follows class closing_parenthesis u refl) count
plain_follows class Unnamed k count u = after_next (λ p. MayFollow class (ending (frame Plain Unnamed) (setting Plain k) p ++ u))
    (ender_follows class comma (closing_parenthesis ∷ u) refl) (ender_follows class closing_parenthesis u refl) count

-- the ending of a block with so many entries does not begin with the lead of another entry
Differs : Mode → ℕ → Kind → List ℕ → Count → Type 0
Differs mode k kind u count = strip (lead (frame mode kind) (inside (setting mode k)) count) (ending (frame mode kind) (setting mode k) count ++ u) ≡ None

-- in plain mode, the ending of a block differs from another entry
plain_differs : (kind : Kind) (k : ℕ) (u : List ℕ) (count : Count) → Differs Plain k kind u (next count)
unfolding Differs
plain_differs Brackets k u count = after_next (Differs Plain k Brackets u) refl refl count
plain_differs Braces k u count = after_next (Differs Plain k Braces u) refl refl count
plain_differs Struct k u count = after_next (Differs Plain k Struct u) refl refl count
plain_differs Tuple k u count = after_next (Differs Plain k Tuple u) refl refl count
plain_differs Unnamed k u count = after_next (Differs Plain k Unnamed u) refl refl count

-- a closing byte at depth k does not begin with the indentation of its entries
end_differs : (c k : ℕ) (u : List ℕ) → k + 1 ≤ 255 → (32 == c) ≡ false → strip (indentation (min (k + 1) 255)) ((indentation k ++ (c ∷ [])) ++ u) ≡ None
end_differs c k u h e = let depth : min (k + 1) 255 ≡ suc k = omega arith in rw depth (deeper k c [] u e)

-- in pretty mode, the ending of a block differs from another entry
pretty_differs : (kind : Kind) (k : ℕ) (u : List ℕ) → k + 1 ≤ 255 → (count : Count) → Differs Pretty k kind u (next count)
unfolding Differs
pretty_differs Brackets k u h count = after_next (Differs Pretty k Brackets u) (end_differs closing_bracket k u h refl) (end_differs closing_bracket k u h refl) count
pretty_differs Braces k u h count = after_next (Differs Pretty k Braces u) (end_differs closing_brace k u h refl) (end_differs closing_brace k u h refl) count
pretty_differs Struct k u h count = after_next (Differs Pretty k Struct u) (end_differs closing_brace k u h refl) (end_differs closing_brace k u h refl) count
pretty_differs Tuple k u h count = after_next (Differs Pretty k Tuple u) (end_differs closing_parenthesis k u h refl) (end_differs closing_parenthesis k u h refl) count
pretty_differs Unnamed k u h count = after_next (Differs Pretty k Unnamed u) (end_differs closing_parenthesis k u h refl) (end_differs closing_parenthesis k u h refl) count

closes_at : (class : Class) (mode : Mode) (k : ℕ) (kind : Kind) → FitsAt mode k 1 → Closes class (frame mode kind) (setting mode k)
unfolding Differs
closes_at class Plain k kind h = record { follows = plain_follows class kind k; differs = λ count u. plain_differs kind k u count }
closes_at class Pretty k kind h = record { follows = λ count u. ender_follows class comma _ refl; differs = λ count u. pretty_differs kind k u h count }

pub closes : (class : Class) (s : Setting) (kind : Kind) → Fits s 1 → Closes class (frame s.mode kind) s
closes class s kind h = closes_at class s.mode s.depth kind h

-- the rest of a block in braces, after its first entry, begins with no colon
no_colon_at : (mode : Mode) (k : ℕ) (texts : List (List ℕ)) (u : List ℕ)
    → strip (codes ": ") (trail mode ++ (block_tail (frame mode Braces) (setting mode k) One texts ++ u)) ≡ None
no_colon_at Plain k [] u = refl
no_colon_at Plain k (text ∷ texts) u = refl
no_colon_at Pretty k texts u = refl

pub no_colon : (s : Setting) (texts : List (List ℕ)) (u : List ℕ)
    → strip (codes ": ") (trail s.mode ++ (block_tail (frame s.mode Braces) s One texts ++ u)) ≡ None
no_colon s texts u = no_colon_at s.mode s.depth texts u

-- ---- structs that end in dots

colon_no_space : (a b : List ℕ) → colon ∷ a ≢ space ∷ b
colon_no_space a b = λ e. absurd (cc)

colon_no_line_feed : (a b : List ℕ) → colon ∷ a ≢ line_feed ∷ b
colon_no_line_feed a b = λ e. absurd (cc)

after_name : (name v : List ℕ) → IsName Debug name → Begins v → after_front Debug (name ++ (colon ∷ space ∷ v)) ≡ colon ∷ space ∷ v
after_name name v h begins = (name_fronts Debug name (colon ∷ space ∷ v) h (follower_ends_front Debug (colon ∷ space ∷ v) (colon_follows Debug v begins))).after

-- after a name, a colon and a space come, and no dots
no_dots_at : (mode : Mode) (k : ℕ) (name v u : List ℕ) → IsName Debug name → Begins v → name ++ (colon ∷ space ∷ v) ≢ last_dots (setting mode k) ++ u
no_dots_at Plain k name v u h begins = λ same. colon_no_space (space ∷ v) (closing_brace ∷ u) (sym (after_name name v h begins) ∙ ap (after_front Debug) same)
no_dots_at Pretty k name v u h begins = λ same. colon_no_line_feed (space ∷ v) _ (sym (after_name name v h begins) ∙ ap (after_front Debug) same)

-- no field begins with dots
pub name_no_dots : (class : Class) (s : Setting) (name v : List ℕ) → IsName class name → Begins v → strip_dots class s (name ++ (colon ∷ space ∷ v)) ≡ None
name_no_dots Token s name v h begins = refl
name_no_dots Debug s name v h begins = strip_of_none (last_dots s) (name ++ (colon ∷ space ∷ v)) (λ u. no_dots_at s.mode s.depth name v u h begins)

-- a struct with fields has not only dots
pub field_no_only_dots : (class : Class) (s : Setting) (name v : List ℕ) → IsName class name → Begins v
    → strip_only_dots class (lead (frame s.mode Struct) (inside s) Zero ++ (name ++ (colon ∷ space ∷ v))) ≡ None
field_no_only_dots Token s name v h begins = refl
field_no_only_dots Debug s name v h begins =
    elim s.mode as (λ mode. strip (codes " { .. }") (lead (frame mode Struct) (inside (setting mode s.depth)) Zero ++ (name ++ (colon ∷ space ∷ v))) ≡ None)
    [ Plain ↦ name_no_dots Debug (setting Plain 0) name v h begins | Pretty ↦ refl ]

-- where structs may end in dots, they are stripped
pub dots_stripped : (class : Class) (s : Setting) → MayEndInDots class → StripsDots class (strip_dots class s) (last_dots s) true
dots_stripped Token s may = absurd may
dots_stripped Debug s may = λ u. strip_joined (last_dots s) u
