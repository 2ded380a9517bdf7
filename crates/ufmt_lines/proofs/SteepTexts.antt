-- In a pretty text, an opening bracket at a line's end inside of a block comes before eight spaces, and each line but the last begins with a space.
use Rattle.std.proofs.Common.{◌≡◌, ◌≢◌, ◌⊎◌, inl, inr, ◌∙◌, refl, ap, sym, subst, ℕ, zero, suc, ◌+◌, ◌≤◌, min, Bool, true, false, List, [], ◌∷◌, ◌++◌, codes, append_assoc, drop, get_or, arith}
use Rattle.std.proofs.lemmas.Bool.{true≢false}
use Rattle.std.specs.Prelude.{⊤}
use Rattle.ufmt.specs.Bytes.{line_feed, space}
use Rattle.ufmt.specs.Document.{Document, leaf, joined, list_of, set_of, map_of, struct_of, non_exhaustive_of, tuple_of, pretty_part, Documents, no_documents, first_document, Pairs, no_pairs, first_pair, Fields, no_fields, first_field}
use Rattle.ufmt.specs.Layout.{Frame, frame, setting, inside, indentation, lead, ending, trail, next, block_tail, layout, texts, pair_texts, field_texts}
use Rattle.ufmt.specs.Leaves.{is_opening}
use Rattle.ufmt.specs.Token.{IsName, IsBuilt, AreBuilt, PairsAreBuilt, FieldsAreBuilt}
use Rattle.ufmt_core.specs.Shift.{IsOneLine}
use Rattle.ufmt_core.specs.declared.layout.Count.{Count}
use Rattle.ufmt_core.specs.declared.layout.Count.TheVariants.{Zero, One, Several}
use Rattle.ufmt_core.specs.declared.layout.Kind.{Kind}
use Rattle.ufmt_core.specs.declared.layout.Kind.TheVariants.{Brackets, Braces, Struct, Tuple, Unnamed}
use Rattle.ufmt_core.specs.declared.layout.Mode.TheVariants.{Pretty}
use Rattle.ufmt_grammar.proofs.BlocksComplete.{entry_assoc}
use Rattle.ufmt_grammar.proofs.ClassLeaves.{name_some}
use Rattle.ufmt_grammar.proofs.ClassLines.{IsBuilt-HasNoLineFeed}
use Rattle.ufmt_grammar.proofs.DottedStructs.{rest_text, rest_text-false, dotted_layout}
use Rattle.ufmt_grammar.specs.Reading.{last_dots}
use Rattle.ufmt_grammar.specs.declared.class.Class.TheVariants.{Debug}

-- eight spaces, if a line feed comes first
abbrev pub DeepAfter : List ℕ → Type 0
DeepAfter t = (u : List ℕ) → t ≡ line_feed ∷ u → (w : List ℕ) × (u ≡ codes "        " ++ w)

-- a space, or the last byte
abbrev pub BeginsLine : List ℕ → Type 0
BeginsLine [] = ⊥
BeginsLine (c ∷ t) = (c ≡ space) ⊎ (t ≡ [])

-- the first comes after each opening bracket, and the second after each line feed
abbrev pub Steep : List ℕ → Type 0
Steep [] = ⊤
Steep (c ∷ t) = (is_opening c ≡ true → DeepAfter t) × (c ≡ line_feed → BeginsLine t) × Steep t

-- no line feed comes first
abbrev pub InLine : List ℕ → Type 0
InLine t = (v : List ℕ) → t ≢ line_feed ∷ v

-- any other byte may come first
pub in_line : (c : ℕ) (t : List ℕ) → c ≢ line_feed → InLine (c ∷ t)
in_line c t other = λ v is. other (ap (λ l. get_or l 0 0) is)

-- a part at the end is steep too
pub steep_after : (a b : List ℕ) → Steep (a ++ b) → Steep b
steep_after [] b h = h
steep_after (c ∷ a) b h = steep_after a b h.2

-- any byte but an opening bracket and a line feed may come first
pub steep_byte : (c : ℕ) (t : List ℕ) → is_opening c ≡ false → c ≢ line_feed → Steep t → Steep (c ∷ t)
steep_byte c t other same h = (λ opens. absurd (true≢false (sym opens ∙ other)), λ feed. absurd (same feed), h)

-- a line feed may come before what begins a line
pub steep_feed : (t : List ℕ) → BeginsLine t → Steep t → Steep (line_feed ∷ t)
steep_feed t next h = (λ opens. absurd (true≢false (sym opens)), λ feed. next, h)

-- so may bytes of a line
steep_line : (w u : List ℕ) → IsOneLine w → InLine u → Steep u → Steep (w ++ u)
steep_line [] u line first h = h
steep_line (c ∷ w) u line first h = (λ opens. deep w line.1, λ feed. absurd (line.0 feed), steep_line w u line.1 first h)
  where
    deep : (w : List ℕ) → IsOneLine w → DeepAfter (w ++ u)
    deep [] line = λ v is. absurd (first v is)
    deep (b ∷ w) line = λ v is. absurd (line.0 (ap (λ l. get_or l 0 0) is))

-- so may spaces
pub steep_indentation : (k : ℕ) (u : List ℕ) → Steep u → Steep (indentation k ++ u)
steep_indentation zero u h = h
steep_indentation (suc k) u h =
    let other : space ≢ line_feed = λ e. omega (arith, e) in
    steep_byte 32 _ refl other (steep_byte 32 _ refl other (steep_byte 32 _ refl other (steep_byte 32 _ refl other (steep_indentation k u h))))

-- they begin a line
begins_indented : (k : ℕ) (u : List ℕ) → 1 ≤ k → BeginsLine (indentation k ++ u)
begins_indented zero u some = absurd (omega (arith, some))
begins_indented (suc k) u some = inl refl

-- an entry's comma and line feed
pub steep_trail : (u : List ℕ) → BeginsLine u → Steep u → Steep (trail Pretty ++ u)
steep_trail u next h = steep_byte 44 (10 ∷ u) refl (λ e. omega (arith, e)) (steep_feed u next h)

pub trail_in_line : (u : List ℕ) → InLine (trail Pretty ++ u)
trail_in_line u = in_line 44 (10 ∷ u) (λ e. omega (arith, e))

-- at depth 2 or more, a line begins with eight spaces
deep_indentation : (k : ℕ) (u : List ℕ) → 2 ≤ k → DeepAfter (line_feed ∷ (indentation k ++ u))
deep_indentation zero u deep = absurd (omega (arith, deep))
deep_indentation (suc zero) u deep = absurd (omega (arith, deep))
deep_indentation (suc (suc k)) u deep = λ v is. (indentation k ++ u, sym (ap (drop 1) is))

-- a bracket and the line of the first entry
steep_opening : (c k : ℕ) (u : List ℕ) → 2 ≤ k → c ≢ line_feed → Steep u → Steep (c ∷ line_feed ∷ (indentation k ++ u))
steep_opening c k u deep other h =
    (λ opens. deep_indentation k u deep, λ feed. absurd (other feed), steep_feed (indentation k ++ u) (begins_indented k u (omega (arith, deep))) (steep_indentation k u h))

-- two bytes, of which the second is no bracket that opens and no line feed
steep_pair : (c b : ℕ) (u : List ℕ) → is_opening b ≡ false → c ≢ line_feed → b ≢ line_feed → Steep u → Steep (c ∷ b ∷ u)
steep_pair c b u other first same h = (λ opens. λ v is. absurd (same (ap (λ l. get_or l 0 0) is)), λ feed. absurd (first feed), steep_byte b u other same h)

-- the text is steep before what is, if no line feed comes next
abbrev pub IsSteep : List ℕ → Type 0
IsSteep text = (u : List ℕ) → InLine u → Steep u → Steep (text ++ u)

abbrev pub AreSteep : List (List ℕ) → Type 0
AreSteep [] = ⊤
AreSteep (text ∷ texts) = IsSteep text × AreSteep texts

-- so are two texts with a colon and a space between them
pub steep_keyed : (a b : List ℕ) → IsSteep a → IsSteep b → IsSteep (a ++ (codes ": " ++ b))
steep_keyed a b first second = λ u line h.
    subst Steep (sym (append_assoc a (codes ": " ++ b) u))
    (first (codes ": " ++ (b ++ u)) (in_line 58 _ (λ e. omega (arith, e))) (steep_byte 58 _ refl (λ e. omega (arith, e)) (steep_byte 32 _ refl (λ e. omega (arith, e)) (second u line h))))

-- ---- the rest of a block

-- an ending may
closed : (j c : ℕ) (u : List ℕ) → is_opening c ≡ false → c ≢ line_feed → Steep u → Steep ((indentation j ++ (c ∷ [])) ++ u)
closed j c u other same h = subst Steep (sym (append_assoc (indentation j) (c ∷ []) u)) (steep_indentation j (c ∷ u) (steep_byte c u other same h))

-- the block is inside of another, or nothing follows it
abbrev pub IsInsideOrLast : ℕ → List ℕ → Type 0
IsInsideOrLast j u = (1 ≤ j) ⊎ (u ≡ [])

-- it begins a line too
begins_closed : (j c : ℕ) (u : List ℕ) → IsInsideOrLast j u → BeginsLine ((indentation j ++ (c ∷ [])) ++ u)
begins_closed zero c u (inl some) = absurd (omega (arith, some))
begins_closed zero c u (inr last) = inr last
begins_closed (suc j) c u where_it_is = inl refl

begins_end : (kind : Kind) (j : ℕ) (u : List ℕ) → IsInsideOrLast j u
    → BeginsLine (ending (frame Pretty kind) (setting Pretty j) One ++ u) × BeginsLine (ending (frame Pretty kind) (setting Pretty j) Several ++ u)
begins_end Brackets j u h = (begins_closed j 93 u h, begins_closed j 93 u h)
begins_end Braces j u h = (begins_closed j 125 u h, begins_closed j 125 u h)
begins_end Struct j u h = (begins_closed j 125 u h, begins_closed j 125 u h)
begins_end Tuple j u h = (begins_closed j 41 u h, begins_closed j 41 u h)
begins_end Unnamed j u h = (begins_closed j 41 u h, begins_closed j 41 u h)

begins_ending : (kind : Kind) (j : ℕ) (count : Count) (u : List ℕ) → IsInsideOrLast j u → BeginsLine (ending (frame Pretty kind) (setting Pretty j) (next count) ++ u)
begins_ending kind j Zero u h = (begins_end kind j u h).0
begins_ending kind j One u h = (begins_end kind j u h).1
begins_ending kind j Several u h = (begins_end kind j u h).1

begins_lead : (f : Frame) (j : ℕ) (count : Count) (u : List ℕ) → 1 ≤ j → BeginsLine (lead f (setting Pretty j) (next count) ++ u)
begins_lead f j Zero u some = begins_indented j u some
begins_lead f j One u some = begins_indented j u some
begins_lead f j Several u some = begins_indented j u some

entries_indented : (j : ℕ) → 1 ≤ min (j + 1) 255
entries_indented j = omega arith

steep_end : (kind : Kind) (j : ℕ) (u : List ℕ) → Steep u
    → Steep (ending (frame Pretty kind) (setting Pretty j) One ++ u) × Steep (ending (frame Pretty kind) (setting Pretty j) Several ++ u)
steep_end Brackets j u h = (closed j 93 u refl (λ e. omega (arith, e)) h, closed j 93 u refl (λ e. omega (arith, e)) h)
steep_end Braces j u h = (closed j 125 u refl (λ e. omega (arith, e)) h, closed j 125 u refl (λ e. omega (arith, e)) h)
steep_end Struct j u h = (closed j 125 u refl (λ e. omega (arith, e)) h, closed j 125 u refl (λ e. omega (arith, e)) h)
steep_end Tuple j u h = (closed j 41 u refl (λ e. omega (arith, e)) h, closed j 41 u refl (λ e. omega (arith, e)) h)
steep_end Unnamed j u h = (closed j 41 u refl (λ e. omega (arith, e)) h, closed j 41 u refl (λ e. omega (arith, e)) h)

steep_ending : (kind : Kind) (j : ℕ) (count : Count) (u : List ℕ) → Steep u → Steep (ending (frame Pretty kind) (setting Pretty j) (next count) ++ u)
steep_ending kind j Zero u h = (steep_end kind j u h).0
steep_ending kind j One u h = (steep_end kind j u h).1
steep_ending kind j Several u h = (steep_end kind j u h).1

-- what comes before an entry may
steep_lead : (f : Frame) (j : ℕ) (count : Count) (u : List ℕ) → Steep u → Steep (lead f (setting Pretty j) (next count) ++ u)
steep_lead f j Zero u h = steep_indentation j u h
steep_lead f j One u h = steep_indentation j u h
steep_lead f j Several u h = steep_indentation j u h

module _ (kind : Kind) (j : ℕ) (close : List ℕ) (b : Bool) (ends : (u : List ℕ) → IsInsideOrLast j u → Steep u → Steep (close ++ u)) where
  -- a line begins with the rest of a block
  begins_rest : (count : Count) (ts : List (List ℕ)) (u : List ℕ) → IsInsideOrLast j u → BeginsLine (rest_text (frame Pretty kind) (setting Pretty j) close (next count) ts b ++ u)
  begins_rest count [] u last = elim b as (λ b. BeginsLine (rest_text (frame Pretty kind) (setting Pretty j) close (next count) [] b ++ u)) [
    | false ↦ begins_ending kind j count u last
    | true ↦ subst BeginsLine (sym (append_assoc (lead (frame Pretty kind) (inside (setting Pretty j)) (next count)) close u)) (begins_lead (frame Pretty kind) (inside (setting Pretty j)).depth count (close ++ u) (entries_indented j))
  ]
  begins_rest count (text ∷ ts) u last =
      let f = frame Pretty kind in
      subst BeginsLine (sym (entry_assoc (lead f (inside (setting Pretty j)) (next count)) text (trail Pretty) (rest_text f (setting Pretty j) close (next (next count)) ts b) u))
      (begins_lead f (inside (setting Pretty j)).depth count _ (entries_indented j))

  -- the rest of a block is steep before what is
  pub steep_rest : (count : Count) (ts : List (List ℕ)) (u : List ℕ) → IsInsideOrLast j u → AreSteep ts → Steep u → Steep (rest_text (frame Pretty kind) (setting Pretty j) close (next count) ts b ++ u)
  steep_rest count [] u last h steep = elim b as (λ b. Steep (rest_text (frame Pretty kind) (setting Pretty j) close (next count) [] b ++ u)) [
    | false ↦ steep_ending kind j count u steep
    | true ↦ subst Steep (sym (append_assoc (lead (frame Pretty kind) (inside (setting Pretty j)) (next count)) close u)) (steep_lead (frame Pretty kind) (inside (setting Pretty j)).depth count (close ++ u) (ends u last steep))
  ]
  steep_rest count (text ∷ ts) u last h steep =
      let f = frame Pretty kind in
      let left = rest_text f (setting Pretty j) close (next (next count)) ts b in
      subst Steep (sym (entry_assoc (lead f (inside (setting Pretty j)) (next count)) text (trail Pretty) left u))
      (steep_lead f (inside (setting Pretty j)).depth count _ (h.0 (trail Pretty ++ (left ++ u)) (trail_in_line (left ++ u)) (steep_trail (left ++ u) (begins_rest (next count) ts u last) (steep_rest (next count) ts u last h.1 steep))))

-- the same of a block that doesn't end in dots
pub steep_tail : (kind : Kind) (j : ℕ) (ts : List (List ℕ)) (u : List ℕ) → IsInsideOrLast j u → AreSteep ts → Steep u → Steep (block_tail (frame Pretty kind) (setting Pretty j) One ts ++ u)
steep_tail kind j ts u last h steep =
    subst (λ t. Steep (t ++ u)) (rest_text-false (frame Pretty kind) (setting Pretty j) [] One ts) (steep_rest kind j [] false (λ v l k. k) Zero ts u last h steep)

-- a line begins with it
pub begins_tail : (kind : Kind) (j : ℕ) (ts : List (List ℕ)) (u : List ℕ) → IsInsideOrLast j u → BeginsLine (block_tail (frame Pretty kind) (setting Pretty j) One ts ++ u)
begins_tail kind j ts u last =
    subst (λ t. BeginsLine (t ++ u)) (rest_text-false (frame Pretty kind) (setting Pretty j) [] One ts) (begins_rest kind j [] false (λ v l k. k) Zero ts u last)

-- dots and an ending may come first
dots_steep : (j : ℕ) (u : List ℕ) → IsInsideOrLast j u → Steep u → Steep (last_dots (setting Pretty j) ++ u)
dots_steep j u last h =
    let other : 46 ≢ line_feed = λ e. omega (arith, e) in
    steep_byte 46 _ refl other (steep_byte 46 _ refl other (steep_feed _ (begins_end Struct j u last).0 (steep_end Struct j u h).0))

-- and of a struct that does
pub steep_dotted : (j : ℕ) (ts : List (List ℕ)) (u : List ℕ) → IsInsideOrLast j u → AreSteep ts → Steep u → Steep (rest_text (frame Pretty Struct) (setting Pretty j) (last_dots (setting Pretty j)) One ts true ++ u)
steep_dotted j ts u last h steep = steep_rest Struct j (last_dots (setting Pretty j)) true (dots_steep j) Zero ts u last h steep

-- a line begins with them
pub begins_dotted : (j : ℕ) (ts : List (List ℕ)) (u : List ℕ) → IsInsideOrLast j u → BeginsLine (rest_text (frame Pretty Struct) (setting Pretty j) (last_dots (setting Pretty j)) One ts true ++ u)
begins_dotted j ts u last = begins_rest Struct j (last_dots (setting Pretty j)) true (dots_steep j) Zero ts u last

-- no name has a line feed
pub name_in_line : (name : List ℕ) → IsName Debug name → IsOneLine name
name_in_line name h = (IsBuilt-HasNoLineFeed Debug (struct_of name no_fields) (h, tt)).0

-- ---- documents at depth 1 or more

-- a block's bracket, and its entries
steep_block : (c k : ℕ) (text left u : List ℕ) → 2 ≤ k → c ≢ line_feed → IsSteep text → BeginsLine (left ++ u) → Steep (left ++ u) → Steep (c ∷ line_feed ∷ ((indentation k ++ (text ++ (trail Pretty ++ left))) ++ u))
steep_block c k text left u deep other entry next rest =
    subst (λ t. Steep (c ∷ line_feed ∷ t)) (sym (entry_assoc (indentation k) text (trail Pretty) left u))
    (steep_opening c k (text ++ (trail Pretty ++ (left ++ u))) deep other (entry (trail Pretty ++ (left ++ u)) (trail_in_line (left ++ u)) (steep_trail (left ++ u) next rest)))

-- a name and what follows it
steep_named : (name more u : List ℕ) → IsName Debug name → InLine (more ++ u) → Steep (more ++ u) → Steep ((name ++ more) ++ u)
steep_named name more u h first rest = subst Steep (sym (append_assoc name more u)) (steep_line name (more ++ u) (name_in_line name h) first rest)

entries_deep : (j : ℕ) → 1 ≤ j → 2 ≤ min (j + 1) 255
entries_deep j deep = omega (arith, deep)

entries_inside : (j : ℕ) → 1 ≤ j → 1 ≤ min (j + 1) 255
entries_inside j deep = omega (arith, deep)

-- a name is steep
pub name_steep : (name : List ℕ) → IsName Debug name → IsSteep name
name_steep name h = λ u first rest. steep_line name u (name_in_line name h) first rest

mutual
  -- the text of a document inside of a block is steep
  pub document_steep : (j : ℕ) → 1 ≤ j → (d : Document) → IsBuilt Debug d → IsSteep (layout (setting Pretty j) d)
  document_steep j deep (leaf text) h = λ u first rest. steep_line text u (IsBuilt-HasNoLineFeed Debug (leaf text) h) first rest
  document_steep j deep (joined ds) h = absurd h
  document_steep j deep (list_of no_documents) h = λ u first rest. steep_pair 91 93 u refl (λ e. omega (arith, e)) (λ e. omega (arith, e)) rest
  document_steep j deep (list_of (first_document d ds)) h = λ u first rest.
      steep_block 91 (min (j + 1) 255) (layout (inside (setting Pretty j)) d) (block_tail (frame Pretty Brackets) (setting Pretty j) One (texts (inside (setting Pretty j)) ds)) u (entries_deep j deep) (λ e. omega (arith, e))
      (document_steep (min (j + 1) 255) (entries_inside j deep) d h.0) (begins_tail Brackets j _ u (inl deep)) (steep_tail Brackets j _ u (inl deep) (documents_steep (min (j + 1) 255) (entries_inside j deep) ds h.1) rest)
  document_steep j deep (set_of no_documents) h = λ u first rest. steep_pair 123 125 u refl (λ e. omega (arith, e)) (λ e. omega (arith, e)) rest
  document_steep j deep (set_of (first_document d ds)) h = λ u first rest.
      steep_block 123 (min (j + 1) 255) (layout (inside (setting Pretty j)) d) (block_tail (frame Pretty Braces) (setting Pretty j) One (texts (inside (setting Pretty j)) ds)) u (entries_deep j deep) (λ e. omega (arith, e))
      (document_steep (min (j + 1) 255) (entries_inside j deep) d h.0) (begins_tail Braces j _ u (inl deep)) (steep_tail Braces j _ u (inl deep) (documents_steep (min (j + 1) 255) (entries_inside j deep) ds h.1) rest)
  document_steep j deep (map_of no_pairs) h = λ u first rest. steep_pair 123 125 u refl (λ e. omega (arith, e)) (λ e. omega (arith, e)) rest
  document_steep j deep (map_of (first_pair key value ps)) h = λ u first rest.
      steep_block 123 (min (j + 1) 255) (layout (inside (setting Pretty j)) key ++ (codes ": " ++ layout (inside (setting Pretty j)) value)) (block_tail (frame Pretty Braces) (setting Pretty j) One (pair_texts (inside (setting Pretty j)) ps)) u (entries_deep j deep) (λ e. omega (arith, e))
      (steep_keyed _ _ (document_steep (min (j + 1) 255) (entries_inside j deep) key h.0) (document_steep (min (j + 1) 255) (entries_inside j deep) value h.1))
      (begins_tail Braces j _ u (inl deep)) (steep_tail Braces j _ u (inl deep) (pairs_steep (min (j + 1) 255) (entries_inside j deep) ps h.2) rest)
  document_steep j deep (struct_of name no_fields) h = λ u first rest. steep_named name [] u h.0 first rest
  document_steep j deep (struct_of name (first_field field value fs)) h = λ u first rest.
      steep_named name _ u h.0 (in_line 32 _ (λ e. omega (arith, e)))
      (steep_byte 32 _ refl (λ e. omega (arith, e)) (steep_block 123 (min (j + 1) 255) (field ++ (codes ": " ++ layout (inside (setting Pretty j)) value)) (block_tail (frame Pretty Struct) (setting Pretty j) One (field_texts (inside (setting Pretty j)) fs)) u (entries_deep j deep) (λ e. omega (arith, e))
      (steep_keyed _ _ (name_steep field h.1.0) (document_steep (min (j + 1) 255) (entries_inside j deep) value h.1.1))
      (begins_tail Struct j _ u (inl deep)) (steep_tail Struct j _ u (inl deep) (fields_steep (min (j + 1) 255) (entries_inside j deep) fs h.1.2) rest)))
  document_steep j deep (non_exhaustive_of name no_fields) h = λ u first rest.
      steep_named name _ u h.1 (in_line 32 _ (λ e. omega (arith, e)))
      (steep_byte 32 _ refl (λ e. omega (arith, e)) (steep_pair 123 32 _ refl (λ e. omega (arith, e)) (λ e. omega (arith, e)) (steep_byte 46 _ refl (λ e. omega (arith, e)) (steep_byte 46 _ refl (λ e. omega (arith, e)) (steep_byte 32 _ refl (λ e. omega (arith, e)) (steep_byte 125 _ refl (λ e. omega (arith, e)) rest))))))
  document_steep j deep (non_exhaustive_of name (first_field field value fs)) h = λ u first rest.
      subst (λ t. Steep (t ++ u)) (sym (dotted_layout (setting Pretty j) name field value fs))
      (steep_named name _ u h.1 (in_line 32 _ (λ e. omega (arith, e)))
      (steep_byte 32 _ refl (λ e. omega (arith, e)) (steep_block 123 (min (j + 1) 255) (field ++ (codes ": " ++ layout (inside (setting Pretty j)) value)) (rest_text (frame Pretty Struct) (setting Pretty j) (last_dots (setting Pretty j)) One (field_texts (inside (setting Pretty j)) fs) true) u (entries_deep j deep) (λ e. omega (arith, e))
      (steep_keyed _ _ (name_steep field h.2.0) (document_steep (min (j + 1) 255) (entries_inside j deep) value h.2.1))
      (begins_dotted j _ u (inl deep)) (steep_dotted j _ u (inl deep) (fields_steep (min (j + 1) 255) (entries_inside j deep) fs h.2.2) rest))))
  document_steep j deep (tuple_of [] no_documents) h = absurd (name_some Debug h)
  document_steep j deep (tuple_of (c ∷ name) no_documents) h = λ u first rest. steep_named (c ∷ name) [] u h first rest
  document_steep j deep (tuple_of [] (first_document d ds)) h = λ u first rest.
      steep_block 40 (min (j + 1) 255) (layout (inside (setting Pretty j)) d) (block_tail (frame Pretty Unnamed) (setting Pretty j) One (texts (inside (setting Pretty j)) ds)) u (entries_deep j deep) (λ e. omega (arith, e))
      (document_steep (min (j + 1) 255) (entries_inside j deep) d h.1) (begins_tail Unnamed j _ u (inl deep)) (steep_tail Unnamed j _ u (inl deep) (documents_steep (min (j + 1) 255) (entries_inside j deep) ds h.2) rest)
  document_steep j deep (tuple_of (c ∷ name) (first_document d ds)) h = λ u first rest.
      steep_named (c ∷ name) _ u h.0 (in_line 40 _ (λ e. omega (arith, e)))
      (steep_block 40 (min (j + 1) 255) (layout (inside (setting Pretty j)) d) (block_tail (frame Pretty Tuple) (setting Pretty j) One (texts (inside (setting Pretty j)) ds)) u (entries_deep j deep) (λ e. omega (arith, e))
      (document_steep (min (j + 1) 255) (entries_inside j deep) d h.1) (begins_tail Tuple j _ u (inl deep)) (steep_tail Tuple j _ u (inl deep) (documents_steep (min (j + 1) 255) (entries_inside j deep) ds h.2) rest))
  document_steep j deep (pretty_part d) h = absurd h

  -- so are those of entries, of pairs and of fields
  pub documents_steep : (j : ℕ) → 1 ≤ j → (ds : Documents) → AreBuilt Debug ds → AreSteep (texts (setting Pretty j) ds)
  documents_steep j deep no_documents h = tt
  documents_steep j deep (first_document d ds) h = (document_steep j deep d h.0, documents_steep j deep ds h.1)

  pub pairs_steep : (j : ℕ) → 1 ≤ j → (ps : Pairs) → PairsAreBuilt Debug ps → AreSteep (pair_texts (setting Pretty j) ps)
  pairs_steep j deep no_pairs h = tt
  pairs_steep j deep (first_pair key value ps) h = (steep_keyed _ _ (document_steep j deep key h.0) (document_steep j deep value h.1), pairs_steep j deep ps h.2)

  pub fields_steep : (j : ℕ) → 1 ≤ j → (fs : Fields) → FieldsAreBuilt Debug fs → AreSteep (field_texts (setting Pretty j) fs)
  fields_steep j deep no_fields h = tt
  fields_steep j deep (first_field name value fs) h = (steep_keyed _ _ (name_steep name h.0) (document_steep j deep value h.1), fields_steep j deep fs h.2)
