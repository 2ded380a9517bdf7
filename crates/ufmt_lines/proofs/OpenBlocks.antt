-- Blocks in blocks: a value has a value wherever a block with entries begins at the place of one of its entries.
use Rattle.std.proofs.Common.{◌≡◌, inl, inr, ◌∙◌, refl, ap, sym, subst, eqb-true, ℕ, zero, suc, ◌+◌, ◌≤◌, ◌<◌, ◌==◌, ◌&&◌, ◌||◌, not, Bool, true, false, cond, List, [], ◌∷◌, ◌++◌, codes, append_assoc, Some, None, drop, get_or, length, nat_lt, set, arith}
use Rattle.std.proofs.Math.Seq.{get_or-append_seam}
use Rattle.std.proofs.lemmas.Bool.Decides.{nat_tests}
use Rattle.std.proofs.lemmas.Bool.{and_parts, cases_Bool, cond-false, cond-true, true≢false}
use Rattle.std.proofs.lemmas.List.{drop-drop, drop-set, drop_all, drop_more}
use Rattle.std.proofs.lemmas.Str.{IsUtf8-from_ascii, is_utf8-from_IsUtf8}
use Rattle.std.proofs.lemmas.Str.Ascii.{IsAscii-cons, IsAscii-nil}
use Rattle.ufmt.specs.Bytes.{backslash, closing_bracket, closing_parenthesis, colon, comma, opening_brace, space}
use Rattle.ufmt.specs.Document.{Document, leaf, joined, list_of, set_of, map_of, struct_of, non_exhaustive_of, tuple_of, pretty_part, Documents, no_documents, first_document, Pairs, no_pairs, first_pair, Fields, no_fields, first_field, nest, nest_all, nest_fields, nest_pairs}
use Rattle.ufmt.specs.Layout.{block_tail, ending, frame, lead, next, pair_texts, plain_text, setting, texts}
use Rattle.ufmt.specs.Leaves.{EndsLeaf, begins_quote, begins_with, is_address_closed, has_name_bytes, is_debug_byte, is_ender, is_in_word, is_name_byte, is_opening, is_outside, is_plain_byte, is_port, is_spaced, is_word_closed, past, place_after, place_outside, Place, beginning, outside, after_quotes, in_parentheses, in_word, in_address, after_address, between, after_backslash}
use Rattle.ufmt.specs.Token.{AreBuilt, FieldsAreBuilt, IsBuilt, IsName, MayFollow, PairsAreBuilt, normal}
use Rattle.ufmt_core.specs.declared.layout.Count.{Count}
use Rattle.ufmt_core.specs.declared.layout.Count.TheVariants.{Zero, One, Several}
use Rattle.ufmt_core.specs.declared.layout.Kind.{Kind}
use Rattle.ufmt_core.specs.declared.layout.Kind.TheVariants.{Brackets, Braces, Struct, Tuple, Unnamed}
use Rattle.ufmt_core.specs.declared.layout.Mode.TheVariants.{Plain, Pretty}
use Rattle.ufmt_core.specs.declared.layout.Setting.{Setting}
use Rattle.ufmt_grammar.proofs.ClassLeaves.{Begins, Begins-append, brace_follows, colon_follows, ender_follows, name_some}
use Rattle.ufmt_grammar.proofs.DebugLeaves.{both, each_quote, lifetime_by, opening_is_quote, outside_step}
use Rattle.ufmt_grammar.proofs.ReadingComplete.{IsBlock, read_complete}
use Rattle.ufmt_grammar.proofs.Parsing.{same_parts}
use Rattle.ufmt_grammar.proofs.ReadingSound.{read_sound}
use Rattle.ufmt_grammar.proofs.ReadingWords.{each_ender}
use Rattle.ufmt_grammar.proofs.TextsBegin.{document_begins}
use Rattle.ufmt_grammar.specs.declared.class.Class.TheVariants.{Debug}
use Rattle.ufmt_values.proofs.Blocks.{block_entries, entries_block}
use Rattle.ufmt_values.proofs.FirstBrackets.{Without, before_first}
use Rattle.ufmt_values.proofs.NameBrackets.{name_no_opening, name_without_openings, named_without_openings}
use Rattle.ufmt_lines.specs.Private.OpenBlocks.{AreBarren, AreEntries, Entries, IsReached, begins_block, begins_fields, first_entry, has_entry, is_separated}
use Rattle.ufmt_scan.specs.Fronts.{IsFront, read_front}
use Rattle.ufmt_scan.specs.declared.text.FrontText.{FrontText}
use Rattle.ufmt_values.proofs.FoundValues.{front_value, none_unless, value_entries, value_read}
use Rattle.ufmt_values.proofs.StructTexts.{dotted_text, lead_is, none_or_some, struct_text}
use Rattle.ufmt_values.specs.Private.FieldsLeft.{after_field}
use Rattle.ufmt_values.specs.Unclosed.{is_closing}
use Rattle.ufmt_values.specs.Values.{before_bracket, value_from}

abbrev plain : Setting
plain = setting Plain 0

-- ---- what follows an entry

-- the text may follow one, and if it separates two, the next one comes
record IsAfter (u : List ℕ) : Type 0 where
  follows : MayFollow Debug u
  most : ℕ
  more : is_separated u ≡ true → Entries most (drop 2 u)

-- an entry and what follows it
entries_from : (d : Document) (u : List ℕ) → IsBuilt Debug d → nest d ≤ 255 → IsAfter u → AreEntries (plain_text d ++ u)
entries_from d u built deep after = (suc after.most, (d, u, refl, built, deep, after.follows, after.more))

after_comma : (t : List ℕ) → AreEntries t → IsAfter (codes ", " ++ t)
after_comma t h = record { follows = ender_follows Debug comma (space ∷ t) refl; most = h.0; more = λ _. h.1 }

after_colon : (t : List ℕ) → Begins t → AreEntries t → IsAfter (codes ": " ++ t)
after_colon t begins h = record { follows = colon_follows Debug t begins; most = h.0; more = λ _. h.1 }

not_separated : (c : ℕ) (t : List ℕ) → (c == comma || c == colon) ≡ false → is_separated (c ∷ t) ≡ false
not_separated c t h = ap (λ x. x && begins_with space t) h

-- the text doesn't separate two
last : (u : List ℕ) → MayFollow Debug u → is_separated u ≡ false → IsAfter u
last u follows none = record { follows = follows; most = 0; more = λ some. absurd (true≢false (sym some ∙ none)) }

last_closing : (c : ℕ) (u : List ℕ) → MayFollow Debug (c ∷ u) → (c == comma || c == colon) ≡ false → IsAfter (c ∷ u)
last_closing c u follows none = last (c ∷ u) follows (not_separated c u none)

-- the end of a block with entries
after_last : (kind : Kind) (count : Count) (u : List ℕ) → IsAfter (ending (frame Plain kind) plain (next count) ++ u)
after_last Brackets Zero u = last_closing 93 u (ender_follows Debug 93 u refl) refl
after_last Brackets One u = last_closing 93 u (ender_follows Debug 93 u refl) refl
after_last Brackets Several u = last_closing 93 u (ender_follows Debug 93 u refl) refl
after_last Braces Zero u = last_closing 125 u (ender_follows Debug 125 u refl) refl
after_last Braces One u = last_closing 125 u (ender_follows Debug 125 u refl) refl
after_last Braces Several u = last_closing 125 u (ender_follows Debug 125 u refl) refl
after_last Struct Zero u = last_closing 32 (125 ∷ u) (brace_follows Debug u) refl
after_last Struct One u = last_closing 32 (125 ∷ u) (brace_follows Debug u) refl
after_last Struct Several u = last_closing 32 (125 ∷ u) (brace_follows Debug u) refl
after_last Tuple Zero u = last_closing 41 u (ender_follows Debug 41 u refl) refl
after_last Tuple One u = last_closing 41 u (ender_follows Debug 41 u refl) refl
after_last Tuple Several u = last_closing 41 u (ender_follows Debug 41 u refl) refl
after_last Unnamed Zero u = last (44 ∷ 41 ∷ u) (ender_follows Debug 44 (41 ∷ u) refl) refl
after_last Unnamed One u = last_closing 41 u (ender_follows Debug 41 u refl) refl
after_last Unnamed Several u = last_closing 41 u (ender_follows Debug 41 u refl) refl

-- the text of a further entry and the rest of the block
further_is : (kind : Kind) (count : Count) (text tail u : List ℕ) → (lead (frame Plain kind) plain (next count) ++ (text ++ tail)) ++ u ≡ codes ", " ++ (text ++ (tail ++ u))
further_is kind count text tail u = ap (λ t. (t ++ (text ++ tail)) ++ u) (lead_is kind count) ∙ ap (λ t. codes ", " ++ t) (append_assoc text tail u)

-- a key, or a field's name, and a value
pair_is : (key value u : List ℕ) → (key ++ (codes ": " ++ value)) ++ u ≡ key ++ (codes ": " ++ (value ++ u))
pair_is key value u = append_assoc key (codes ": " ++ value) u

from_pair : (key value : Document) (u : List ℕ) → IsBuilt Debug key → nest key ≤ 255 → IsBuilt Debug value → nest value ≤ 255 → IsAfter u
    → AreEntries (plain_text key ++ (codes ": " ++ (plain_text value ++ u)))
from_pair key value u of_key deep_key of_value deep after =
    entries_from key _ of_key deep_key (after_colon (plain_text value ++ u) (Begins-append (document_begins Debug plain value of_value) u) (entries_from value u of_value deep after))

from_field : (name : List ℕ) (value : Document) (u : List ℕ) → IsName Debug name → IsBuilt Debug value → nest value ≤ 255 → IsAfter u
    → AreEntries (name ++ (codes ": " ++ (plain_text value ++ u)))
from_field name value u is built deep after = from_pair (leaf name) value u is.whole (omega arith) built deep after

after_documents : (kind : Kind) (count : Count) (ds : Documents) (u : List ℕ) → AreBuilt Debug ds → nest_all ds ≤ 255 → IsAfter (block_tail (frame Plain kind) plain (next count) (texts plain ds) ++ u)
after_documents kind count no_documents u built deep = after_last kind count u
after_documents kind count (first_document d ds) u built deep =
    let tail = block_tail (frame Plain kind) plain (next (next count)) (texts plain ds) in
    subst IsAfter (sym (further_is kind count (plain_text d) tail u))
    (after_comma _ (entries_from d (tail ++ u) built.0 (omega arith) (after_documents kind (next count) ds u built.1 (omega arith))))

after_pairs : (count : Count) (ps : Pairs) (u : List ℕ) → PairsAreBuilt Debug ps → nest_pairs ps ≤ 255 → IsAfter (block_tail (frame Plain Braces) plain (next count) (pair_texts plain ps) ++ u)
after_pairs count no_pairs u built deep = after_last Braces count u
after_pairs count (first_pair key value ps) u built deep =
    let tail = block_tail (frame Plain Braces) plain (next (next count)) (pair_texts plain ps) in
    subst IsAfter (sym (further_is Braces count (plain_text key ++ (codes ": " ++ plain_text value)) tail u))
    (after_comma _ (subst AreEntries (sym (pair_is (plain_text key) (plain_text value) (tail ++ u)))
    (from_pair key value (tail ++ u) built.0 (omega arith) built.1 (omega arith) (after_pairs (next count) ps u built.2 (omega arith)))))

-- two dots are a leaf
dots_leaf : IsBuilt Debug (leaf (codes ".."))
dots_leaf = record { some = λ none. absurd (cc); pieces = (outside, refl, (outside, refl, refl)); utf8 = is_utf8-from_IsUtf8 (codes "..") (IsUtf8-from_ascii (codes "..") (IsAscii-cons 46 (codes ".") (omega arith) (IsAscii-cons 46 [] (omega arith) IsAscii-nil))) }

after_fields : (fs : Fields) (dots : Bool) (u : List ℕ) → FieldsAreBuilt Debug fs → nest_fields fs ≤ 255 → IsAfter (after_field fs dots u)
after_fields no_fields false u built deep = last_closing 32 (125 ∷ u) (brace_follows Debug u) refl
after_fields no_fields true u built deep = after_comma _ (entries_from (leaf (codes "..")) (codes " }" ++ u) dots_leaf (omega arith) (last_closing 32 (125 ∷ u) (brace_follows Debug u) refl))
after_fields (first_field name value fs) dots u built deep =
    after_comma _ (from_field name value (after_field fs dots u) built.0 built.1 (omega arith) (after_fields fs dots u built.2 (omega arith)))

-- ---- the first entry of a value

-- it comes after the first bracket
module _ (z : List ℕ) (k : ℕ) (r : List ℕ) (none : Without is_opening z) (opens : is_opening k ≡ true) where
  bracket_is : get_or (z ++ k ∷ r) (before_bracket (z ++ k ∷ r)) 0 ≡ k
  bracket_is = ap (λ i. get_or (z ++ k ∷ r) i 0) (before_first z k r none opens) ∙ get_or-append_seam z k r 0

  first_by : (brace some : Bool) → (k == opening_brace) ≡ brace → nat_lt 0 (length z) ≡ some → first_entry (z ++ k ∷ r) ≡ cond (brace && some) (length z + 2) (length z + 1)
  first_by brace some is_brace is_some =
      ap (λ i. cond ((i == opening_brace) && nat_lt 0 (before_bracket (z ++ k ∷ r))) (before_bracket (z ++ k ∷ r) + 2) (before_bracket (z ++ k ∷ r) + 1)) bracket_is
      ∙ ap (λ n. cond ((k == opening_brace) && nat_lt 0 n) (n + 2) (n + 1)) (before_first z k r none opens)
      ∙ ap (λ b. cond (b && nat_lt 0 (length z)) (length z + 2) (length z + 1)) is_brace ∙ ap (λ b. cond (brace && b) (length z + 2) (length z + 1)) is_some

after_bracket : (z : List ℕ) (k : ℕ) (r : List ℕ) → drop (length z + 1) (z ++ k ∷ r) ≡ r
after_bracket [] k r = refl
after_bracket (c ∷ z) k r = let more : length (c ∷ z) + 1 ≡ suc (length z + 1) = omega arith in ap (λ n. drop n (c ∷ (z ++ k ∷ r))) more ∙ after_bracket z k r

after_brace : (z : List ℕ) (k b : ℕ) (r : List ℕ) → drop (length z + 2) (z ++ k ∷ b ∷ r) ≡ r
after_brace [] k b r = refl
after_brace (c ∷ z) k b r = let more : length (c ∷ z) + 2 ≡ suc (length z + 2) = omega arith in ap (λ n. drop n (c ∷ (z ++ k ∷ b ∷ r))) more ∙ after_brace z k b r

-- the entries of a text with this head, bracket and rest
abbrev IsFirst : List ℕ → Type 0
IsFirst t = AreEntries (drop (first_entry t) t)

first_at : (z : List ℕ) (k : ℕ) (r : List ℕ) → Without is_opening z → is_opening k ≡ true → (k == opening_brace) ≡ false → AreEntries r → IsFirst (z ++ k ∷ r)
first_at z k r none opens no_brace entries =
    let at = first_by z k r none opens false (nat_lt 0 (length z)) no_brace refl in
    subst AreEntries (sym (ap (λ n. drop n (z ++ k ∷ r)) at ∙ after_bracket z k r)) entries

first_in : (r : List ℕ) → AreEntries r → IsFirst (opening_brace ∷ r)
first_in r entries = entries

first_field_at : (name r : List ℕ) → IsName Debug name → AreEntries r → IsFirst (name ++ (codes " { " ++ r))
first_field_at name r is entries =
    let z = name ++ space ∷ [] in
    let whole : name ++ (codes " { " ++ r) ≡ z ++ opening_brace ∷ space ∷ r = sym (append_assoc name (space ∷ []) (opening_brace ∷ space ∷ r)) in
    let at = first_by z opening_brace (space ∷ r) (named_without_openings name is) refl true (nat_lt 0 (length z)) refl refl in
    let some : nat_lt 0 (length z) ≡ true = named_some name in
    subst IsFirst (sym whole) (subst AreEntries (sym (ap (λ n. drop n (z ++ opening_brace ∷ space ∷ r)) (at ∙ ap (λ b. cond b (length z + 2) (length z + 1)) some) ∙ after_brace z opening_brace space r)) entries)
  where
    named_some : (name : List ℕ) → nat_lt 0 (length (name ++ space ∷ [])) ≡ true
    named_some [] = refl
    named_some (c ∷ name) = grind (arith, nat_tests)

-- a block's text, from its first entry on
entries_of : (d : Document) (u : List ℕ) → IsBuilt Debug d → IsBlock d → nest d ≤ 255 → IsFirst (plain_text d ++ u)
entries_of (leaf text) u built block deep = absurd block
entries_of (joined ds) u built block deep = absurd block
entries_of (list_of no_documents) u built block deep = absurd block
entries_of (list_of (first_document d ds)) u built block deep =
    let tail = block_tail (frame Plain Brackets) plain One (texts plain ds) in
    first_at [] 91 ((plain_text d ++ tail) ++ u) tt refl refl
    (subst AreEntries (sym (append_assoc (plain_text d) tail u)) (entries_from d (tail ++ u) built.0 (omega arith) (after_documents Brackets Zero ds u built.1 (omega arith))))
entries_of (set_of no_documents) u built block deep = absurd block
entries_of (set_of (first_document d ds)) u built block deep =
    let tail = block_tail (frame Plain Braces) plain One (texts plain ds) in
    first_in ((plain_text d ++ tail) ++ u)
    (subst AreEntries (sym (append_assoc (plain_text d) tail u)) (entries_from d (tail ++ u) built.0 (omega arith) (after_documents Braces Zero ds u built.1 (omega arith))))
entries_of (map_of no_pairs) u built block deep = absurd block
entries_of (map_of (first_pair key value ps)) u built block deep =
    let tail = block_tail (frame Plain Braces) plain One (pair_texts plain ps) in
    first_in (((plain_text key ++ (codes ": " ++ plain_text value)) ++ tail) ++ u)
    (subst AreEntries (sym (append_assoc (plain_text key ++ (codes ": " ++ plain_text value)) tail u ∙ pair_is (plain_text key) (plain_text value) (tail ++ u)))
    (from_pair key value (tail ++ u) built.0 (omega arith) built.1 (omega arith) (after_pairs Zero ps u built.2 (omega arith))))
entries_of (struct_of name no_fields) u built block deep = absurd block
entries_of (struct_of name (first_field field value fs)) u built block deep =
    subst IsFirst (sym (struct_text name field value fs u)) (first_field_at name _ built.0 (from_field field value (after_field fs false u) built.1.0 built.1.1 (omega arith) (after_fields fs false u built.1.2 (omega arith))))
entries_of (non_exhaustive_of name no_fields) u built block deep = absurd block
entries_of (non_exhaustive_of name (first_field field value fs)) u built block deep =
    subst IsFirst (sym (dotted_text name field value fs u)) (first_field_at name _ built.1 (from_field field value (after_field fs true u) built.2.0 built.2.1 (omega arith) (after_fields fs true u built.2.2 (omega arith))))
entries_of (tuple_of name no_documents) u built block deep = absurd block
entries_of (tuple_of [] (first_document d ds)) u built block deep =
    let tail = block_tail (frame Plain Unnamed) plain One (texts plain ds) in
    first_at [] 40 ((plain_text d ++ tail) ++ u) tt refl refl
    (subst AreEntries (sym (append_assoc (plain_text d) tail u)) (entries_from d (tail ++ u) built.1 (omega arith) (after_documents Unnamed Zero ds u built.2 (omega arith))))
entries_of (tuple_of (c ∷ name) (first_document d ds)) u built block deep =
    let tail = block_tail (frame Plain Tuple) plain One (texts plain ds) in
    let whole : ((c ∷ name) ++ (40 ∷ (plain_text d ++ tail))) ++ u ≡ (c ∷ name) ++ 40 ∷ ((plain_text d ++ tail) ++ u) = append_assoc (c ∷ name) (40 ∷ (plain_text d ++ tail)) u in
    subst IsFirst (sym whole) (first_at (c ∷ name) 40 ((plain_text d ++ tail) ++ u) (name_without_openings (c ∷ name) built.0) refl refl
    (subst AreEntries (sym (append_assoc (plain_text d) tail u)) (entries_from d (tail ++ u) built.1 (omega arith) (after_documents Tuple Zero ds u built.2 (omega arith)))))
entries_of (pretty_part d) u built block deep = absurd block

-- ---- how a block begins

-- no block begins with a byte that is no opening bracket, no space and no byte of a name
begins_none : (named : Bool) (c : ℕ) (t : List ℕ) → is_opening c ≡ false → (c == space) ≡ false → is_name_byte c ≡ false → begins_block named (c ∷ t) ≡ false
begins_none named c t opens spaces name =
    ap (λ b. cond b (has_entry t) (cond (c == space) (named && begins_fields t) (cond (is_name_byte c) (begins_block (not (c == colon)) t) false))) opens
    ∙ ap (λ b. cond b (named && begins_fields t) (cond (is_name_byte c) (begins_block (not (c == colon)) t) false)) spaces
    ∙ ap (λ b. cond b (begins_block (not (c == colon)) t) false) name

-- a byte of a name is no space
name_no_space : (c : ℕ) → is_name_byte c ≡ true → (c == space) ≡ false
name_no_space c h = grind (arith, nat_tests)

begins_name : (named : Bool) (c : ℕ) (t : List ℕ) → is_name_byte c ≡ true → begins_block named (c ∷ t) ≡ begins_block (not (c == colon)) t
begins_name named c t name =
    ap (λ b. cond b (has_entry t) (cond (c == space) (named && begins_fields t) (cond (is_name_byte c) (begins_block (not (c == colon)) t) false))) (name_no_opening c name)
    ∙ ap (λ b. cond b (named && begins_fields t) (cond (is_name_byte c) (begins_block (not (c == colon)) t) false)) (name_no_space c name)
    ∙ ap (λ b. cond b (begins_block (not (c == colon)) t) false) name

ender_none : (named : Bool) (c : ℕ) (t : List ℕ) → is_ender c ≡ true → begins_block named (c ∷ t) ≡ false
ender_none named c t h = each_ender (λ b. begins_block named (b ∷ t) ≡ false) refl refl refl refl c h

-- none does where a document may end
follower_none : (named : Bool) (u : List ℕ) → MayFollow Debug u → begins_block named u ≡ false
follower_none named [] h = refl
follower_none named (c ∷ []) h = ender_none named c [] h
follower_none named (c ∷ b ∷ u) (inl h) = ender_none named c (b ∷ u) h
follower_none named (c ∷ b ∷ u) (inr (inl h)) = rw (h.0, h.1) refl
follower_none named (c ∷ b ∷ u) (inr (inr h)) = rw (h.0, h.1) (both_false named)
  where
    both_false : (named : Bool) → named && false ≡ false
    both_false true = refl
    both_false false = refl

-- a bracket that closes after bytes of a name
closes_none : (t : List ℕ) (k : ℕ) → is_closing k ≡ true → is_name_byte k ≡ false → begins_with k (past is_name_byte t) ≡ true → (u : List ℕ) → has_entry (t ++ u) ≡ false
closes_none [] k closes no_name h u = absurd (cc)
closes_none (c ∷ t) k closes no_name h u = elim (cases_Bool (is_name_byte c)) [
  | inl is ↦ rw is (closes_none t k closes no_name (rw is at h) u)
  | inr is ↦ rw is (ap not (ap is_closing (eqb-true c k (rw is at h)) ∙ closes))
]

-- the same of bytes of a word
past_name : (t : List ℕ) (k : ℕ) → is_name_byte k ≡ false → begins_with k (past is_debug_byte t) ≡ true → begins_with k (past is_name_byte t) ≡ true
past_name [] k no_name h = h
past_name (c ∷ t) k no_name h = elim (cases_Bool (is_debug_byte c)) [
  | inl is ↦ let named : is_name_byte c ≡ true = ap (λ b. b || (c == colon)) is in rw named (past_name t k no_name (rw is at h))
  | inr is ↦
      let same : (c == k) ≡ true = rw is at h in
      let other : is_name_byte c ≡ false = ap is_name_byte (eqb-true c k same) ∙ no_name in
      rw other same
]

word_closes : (t : List ℕ) → is_word_closed t ≡ true → begins_with closing_parenthesis (past is_name_byte t) ≡ true
word_closes [] h = absurd (cc)
word_closes (c ∷ t) h =
    let parts = both (is_debug_byte c) (begins_with closing_parenthesis (past is_debug_byte t)) h in
    past_name (c ∷ t) closing_parenthesis refl (ap (λ b. begins_with closing_parenthesis (cond b (past is_debug_byte t) (c ∷ t))) parts.0 ∙ parts.1)

port_closes : (t : List ℕ) → is_port t ≡ true → begins_with closing_bracket t ≡ true
port_closes [] h = absurd (cc)
port_closes (c ∷ []) h = absurd (cc)
port_closes (c ∷ b ∷ []) h = absurd (cc)
port_closes (c ∷ b ∷ d ∷ t) h = (both (c == closing_bracket) (b == colon) (both ((c == closing_bracket) && (b == colon)) (is_plain_byte d) h).0).0

address_closes : (t : List ℕ) → is_address_closed t ≡ true → begins_with closing_bracket (past is_name_byte t) ≡ true
address_closes [] h = absurd (cc)
address_closes (c ∷ t) h =
    let parts = both (is_name_byte c) (is_port (past is_name_byte t)) h in
    ap (λ b. begins_with closing_bracket (cond b (past is_name_byte t) (c ∷ t))) parts.0 ∙ port_closes (past is_name_byte t) parts.1

begins_past : (k : ℕ) (t : List ℕ) → is_name_byte k ≡ false → begins_with k t ≡ true → begins_with k (past is_name_byte t) ≡ true
begins_past k [] no_name h = h
begins_past k (c ∷ t) no_name h =
    let at : is_name_byte c ≡ false = ap is_name_byte (eqb-true c k h) ∙ no_name in
    ap (λ b. begins_with k (cond b (past is_name_byte t) (c ∷ t))) at ∙ h

in_word_name : (c : ℕ) (t : List ℕ) → is_in_word c t ≡ true → is_name_byte c ≡ true
in_word_name c t h =
    let plain = is_debug_byte c && not (c == backslash && begins_quote t) in
    elim (cases_Bool (c == colon)) [
      | inl is ↦ ap is_name_byte (eqb-true c colon is)
      | inr is ↦ ap (λ b. b || (c == colon)) (both (is_debug_byte c) (not (c == backslash && begins_quote t)) (sym (cond-false (c == colon) (not (is_spaced t)) plain is) ∙ h)).0
    ]

-- none begins with what is left of a leaf, outside of quotes
module _ (u : List ℕ) (follows : MayFollow Debug u) where
  at_outside : (c : ℕ) (w : List ℕ) (next : Place) (named : Bool) → place_outside c w ≡ Some next → (next ≡ outside → begins_block (not (c == colon)) (w ++ u) ≡ false) → begins_block named (c ∷ (w ++ u)) ≡ false
  at_outside c w next named step more = elim (outside_step c w next step) [
    | inl h ↦ begins_name named c (w ++ u) (in_word_name c w h.0) ∙ more h.1
    | inr (inl h) ↦ each_quote (λ b. begins_block named (b ∷ (w ++ u)) ≡ false) refl refl c (opening_is_quote c w h.0)
    | inr (inr (inl h)) ↦ ap (λ b. begins_block named (b ∷ (w ++ u))) (lifetime_by c w h.1).0
    | inr (inr (inr h)) ↦ ap (λ b. begins_block named (b ∷ (w ++ u))) h.0 ∙ closes_none w closing_parenthesis refl refl (begins_past closing_parenthesis w refl h.1) u
  ]

  at_beginning : (c : ℕ) (w : List ℕ) (next : Place) (named : Bool) → place_after beginning c w ≡ Some next → (next ≡ outside → begins_block (not (c == colon)) (w ++ u) ≡ false) → begins_block named (c ∷ (w ++ u)) ≡ false
  at_beginning c w next named step more =
      let place = cond ((c == 91) && is_address_closed w) (Some in_address) (place_outside c w) in
      elim (cases_Bool ((c == 40) && is_word_closed w)) [
        | inl both ↦ let parts = and_parts (c == 40) (is_word_closed w) both in word parts.0 parts.1
        | inr no_word ↦ elim (cases_Bool ((c == 91) && is_address_closed w)) [
          | inl both ↦ let parts = and_parts (c == 91) (is_address_closed w) both in address parts.0 parts.1
          | inr no_address ↦
              at_outside c w next named (sym (cond-false ((c == 40) && is_word_closed w) (Some in_word) place no_word
              ∙ cond-false ((c == 91) && is_address_closed w) (Some in_address) (place_outside c w) no_address) ∙ step) more
        ]
      ]
    where
      word : (c == 40) ≡ true → is_word_closed w ≡ true → begins_block named (c ∷ (w ++ u)) ≡ false
      word is closed = ap (λ b. begins_block named (b ∷ (w ++ u))) (eqb-true c 40 is) ∙ closes_none w closing_parenthesis refl refl (word_closes w closed) u

      address : (c == 91) ≡ true → is_address_closed w ≡ true → begins_block named (c ∷ (w ++ u)) ≡ false
      address is closed = ap (λ b. begins_block named (b ∷ (w ++ u))) (eqb-true c 91 is) ∙ closes_none w closing_bracket refl refl (address_closes w closed) u

  after_colon_none : (c : ℕ) (w : List ℕ) (next : Place) (named : Bool) → place_after after_quotes c w ≡ Some next → (next ≡ outside → begins_block (not (c == colon)) (w ++ u) ≡ false) → begins_block named (c ∷ (w ++ u)) ≡ false
  after_colon_none c w next named step more = elim (cases_Bool (c == colon)) [
    | inl is ↦ absurd (none_or_some (sym (cond-true (c == colon) None (place_outside c w) is)) step)
    | inr is ↦ at_outside c w next named (sym (cond-false (c == colon) None (place_outside c w) is) ∙ step) more
  ]

  leaf_none : (place : Place) (w : List ℕ) → is_outside place ≡ true → EndsLeaf place w → (named : Bool) → begins_block named (w ++ u) ≡ false
  leaf_none place [] out ends named = follower_none named u follows
  leaf_none beginning (c ∷ w) out ends named = at_beginning c w ends.0 named ends.1 (λ is. leaf_none outside w refl (subst (λ p. EndsLeaf p w) is ends.2) (not (c == colon)))
  leaf_none outside (c ∷ w) out ends named = at_outside c w ends.0 named ends.1 (λ is. leaf_none outside w refl (subst (λ p. EndsLeaf p w) is ends.2) (not (c == colon)))
  leaf_none after_quotes (c ∷ w) out ends named = after_colon_none c w ends.0 named ends.1 (λ is. leaf_none outside w refl (subst (λ p. EndsLeaf p w) is ends.2) (not (c == colon)))
  leaf_none in_parentheses (c ∷ w) out ends named = absurd (cc)
  leaf_none in_word (c ∷ w) out ends named = absurd (cc)
  leaf_none in_address (c ∷ w) out ends named = absurd (cc)
  leaf_none after_address (c ∷ w) out ends named = absurd (cc)
  leaf_none (between quote) (c ∷ w) out ends named = absurd (cc)
  leaf_none (after_backslash quote) (c ∷ w) out ends named = absurd (cc)

-- a name and what follows it
name_then : (w : List ℕ) (t : List ℕ) → has_name_bytes w ≡ true → ((named : Bool) → begins_block named t ≡ false) → (named : Bool) → begins_block named (w ++ t) ≡ false
name_then [] t bytes none named = none named
name_then (c ∷ w) t bytes none named =
    let parts = both (is_name_byte c) (has_name_bytes w) bytes in
    begins_name named c (w ++ t) parts.0 ∙ name_then w t parts.1 none (not (c == colon))

only_dots_none : (u : List ℕ) (named : Bool) → begins_block named (codes " { .. }" ++ u) ≡ false
only_dots_none u true = refl
only_dots_none u false = refl

-- a document is a block with entries if one begins with its text
block_begins : (d : Document) (u : List ℕ) → IsBuilt Debug d → MayFollow Debug u → begins_block false (plain_text d ++ u) ≡ true → IsBlock (normal d)
block_begins (leaf text) u built follows h = absurd (true≢false (sym h ∙ leaf_none u follows beginning text refl built.pieces false))
block_begins (joined ds) u built follows h = absurd built
block_begins (list_of no_documents) u built follows h = absurd (true≢false (sym h))
block_begins (list_of (first_document d ds)) u built follows h = tt
block_begins (set_of no_documents) u built follows h = absurd (true≢false (sym h))
block_begins (set_of (first_document d ds)) u built follows h = tt
block_begins (map_of no_pairs) u built follows h = absurd (true≢false (sym h))
block_begins (map_of (first_pair key value ps)) u built follows h = tt
block_begins (struct_of name no_fields) u built follows h =
    absurd (true≢false (sym h ∙ ap (begins_block false) (append_assoc name [] u) ∙ leaf_none u follows beginning name refl built.0.whole.pieces false))
block_begins (struct_of name (first_field field value fs)) u built follows h = tt
block_begins (non_exhaustive_of name no_fields) u built follows h =
    absurd (true≢false (sym h ∙ ap (begins_block false) (append_assoc name (codes " { .. }") u) ∙ name_then name (codes " { .. }" ++ u) built.1.bytes (only_dots_none u) false))
block_begins (non_exhaustive_of name (first_field field value fs)) u built follows h = tt
block_begins (tuple_of [] no_documents) u built follows h = absurd (name_some Debug built)
block_begins (tuple_of (c ∷ name) no_documents) u built follows h =
    absurd (true≢false (sym h ∙ ap (begins_block false) (append_assoc (c ∷ name) [] u) ∙ leaf_none u follows beginning (c ∷ name) refl built.whole.pieces false))
block_begins (tuple_of name (first_document d ds)) u built follows h = tt
block_begins (pretty_part d) u built follows h = absurd built

-- ---- from entry to entry

-- the first entry of a value
pub first_reached : (text : List ℕ) (start at : ℕ) → at ≡ start + first_entry (drop start text) → IsReached text start at
first_reached text start at is = λ d u found.
    let whole = read_sound Debug 255 plain (drop start text) d u (value_read Pretty (drop start text) d u found) in
    let block = entries_block d (value_entries Pretty (drop start text) d u found) in
    let there : drop at text ≡ drop (first_entry (drop start text)) (drop start text) = ap (λ n. drop n text) is ∙ sym (drop-drop (first_entry (drop start text)) start text) in
    subst AreEntries (sym (there ∙ ap (λ t. drop (first_entry t) t) whole.whole)) (entries_of d u whole.tokens block whole.nests)

-- an entry is read, and what follows it
entry_read : (n : ℕ) (t : List ℕ) → (e : Entries (suc n) t) → read_front Debug Plain t ≡ Some (normal e.0, e.1)
entry_read n t e = ap (read_front Debug Plain) e.2 ∙ read_complete Debug 255 plain e.0 e.1 e.3 e.4 tt e.5

-- the next one comes after it
next_entries : (t : List ℕ) (front : FrontText) → IsFront Debug Plain t front → is_separated (drop front.len t) ≡ true → AreEntries t → AreEntries (drop 2 (drop front.len t))
next_entries t front is separated (zero, none_left) = absurd none_left
next_entries t front is separated (suc n, e) =
    let same : drop front.len t ≡ e.1 = (same_parts (is.document, drop front.len t) (normal e.0, e.1) (sym is.is_read ∙ entry_read n t e)).1 in
    (n, subst (λ v. Entries n (drop 2 v)) (sym same) (e.6 (sym (ap is_separated same) ∙ separated)))

pub next_reached : (text : List ℕ) (start at next : ℕ) (front : FrontText) → IsFront Debug Plain (drop at text) front → is_separated (drop (at + front.len) text) ≡ true → next ≡ at + front.len + 2
    → IsReached text start at → IsReached text start next
next_reached text start at next front is separated further reached = λ d u found.
    let there : drop (at + front.len) text ≡ drop front.len (drop at text) = sym (drop-drop front.len at text) in
    let after : drop next text ≡ drop 2 (drop front.len (drop at text)) = ap (λ n. drop n text) further ∙ sym (drop-drop 2 (at + front.len) text) ∙ ap (drop 2) there in
    subst AreEntries (sym after) (next_entries (drop at text) front is (sym (ap is_separated there) ∙ separated) (reached d u found))

-- no value begins where one would have to be in it
pub leads : (text : List ℕ) (outer inner : ℕ) → IsReached text outer inner → begins_block false (drop inner text) ≡ true → value_from Pretty (drop inner text) ≡ None → value_from Pretty (drop outer text) ≡ None
leads text outer inner reached begins none = none_unless (value_from Pretty (drop outer text)) (λ x is. in_entry (reached x.0 x.1 is))
  where
    in_entry : AreEntries (drop inner text) → ⊥
    in_entry (zero, none_left) = none_left
    in_entry (suc n, e) =
        let entries = block_entries (normal e.0) (block_begins e.0 e.1 e.3 e.5 (sym (ap (begins_block false) e.2) ∙ begins)) in
        none_or_some (sym none) (front_value Pretty (drop inner text) (normal e.0) e.1 (entry_read n (drop inner text) e) entries)

-- ---- what is kept

-- the first place that is kept, and the others
pub first_kept : (text places : List ℕ) (i : ℕ) → i < length places → AreBarren text (drop i places) → (value_from Pretty (drop (get_or places i 0) text) ≡ None) × AreBarren text (drop (i + 1) places)
first_kept text places i within h = subst (AreBarren text) (drop_more places i 0 within) h

-- a place more
pub one_more : (text places : List ℕ) (i place : ℕ) → i < length places → value_from Pretty (drop place text) ≡ None → AreBarren text (drop (i + 1) places) → AreBarren text (drop i (set places i place))
one_more text places i place within none h = subst (AreBarren text) (sym (drop-set places i place within)) (none, h)

-- none is kept after the last index
pub none_kept : (text places : List ℕ) (i : ℕ) → length places ≤ i → AreBarren text (drop i places)
none_kept text places i past = subst (AreBarren text) (sym (drop_all i places past)) tt
