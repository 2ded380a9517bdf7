-- The name at the front of a document's text is found byte by byte.
use Rattle.std.proofs.Common.{◌≡◌, ◌≢◌, ◌⊎◌, inl, inr, refl, sym, ap, ◌∙◌, subst, arith, ℕ, ◌==◌, ◌||◌, not, cond, Bool, true, false, List, [], ◌∷◌, ◌++◌, append_assoc, eqb-true}
use Rattle.std.specs.Str.{bytes_eq}
use Rattle.std.proofs.lemmas.Bool.{cases_Bool, false_from_ne_true}
use Rattle.std.proofs.lemmas.Bool.Decides.{nat_tests}
use Rattle.std.proofs.lemmas.Slice.Eq.{bytes_eq-Decides}
use Rattle.std.proofs.lemmas.List.{append_cancel_left}
use Rattle.ufmt_core.specs.Document.{Document, leaf, joined, list_of, set_of, map_of, struct_of, non_exhaustive_of, tuple_of, pretty_part, no_documents, first_document, no_fields, first_field}
use Rattle.ufmt_core.specs.Layout.{inside, layout}
use Rattle.ufmt_core.specs.declared.layout.Setting.{Setting}
use Rattle.ufmt_grammar.specs.declared.class.Class.TheVariants.{Debug}
use Rattle.ufmt_grammar.specs.Leaves.{EndsLeaf, IsDebugFollower, IsName, MayFollow, beginning, begins_with, ends_in_colon, is_debug_byte, is_ender, is_spaced}
use Rattle.ufmt_grammar.specs.Reading.{leaf_from}
use Rattle.ufmt_grammar.specs.Token.{IsBuilt}
use Rattle.ufmt_grammar.proofs.ClassLeaves.{Begins, Begins-append, begins_no, name_some}
use Rattle.ufmt_grammar.proofs.FramesClose.{begins_after}
use Rattle.ufmt_grammar.proofs.TextsBegin.{document_begins as text_begins}
use Rattle.ufmt_grammar.proofs.DebugLeaves.{StopsLeaf, follower_unspaced, leaf_from-append, some_begun}
use Rattle.ufmt_grammar.proofs.ReadingWords.{each_ender}
use Rattle.ufmt_grammar.specs.Bytes.{ends_name}
use Rattle.ufmt_parser.specs.Naming.{document_name, is_debug_name, is_past_name}
use Rattle.ufmt_parser.specs.Taking.{DoesNotBegin}
use Rattle.ufmt_parser.proofs.Words.{begins_name, name_ends, name_ends_in_no_colon, name_is_some}

-- ---- where a name is over

each_end : (P : ℕ → Type 0) → P 32 → P 40 → P 91 → P 123 → P 44 → P 93 → P 41 → P 125 → (c : ℕ) → ends_name c ≡ true → P c
each_end P space parenthesis bracket brace comma closing_bracket closing_parenthesis closing_brace c h = grind (arith, nat_tests)

-- no byte of a name comes where one is over
past_name_stops : (u : List ℕ) → is_past_name u ≡ true → StopsLeaf u
past_name_stops [] h = tt
past_name_stops (c ∷ u) h = elim (cases_Bool (c == 58)) [
  | inl colon ↦ subst (λ b. StopsLeaf (b ∷ u)) (sym (eqb-true c 58 colon)) (rw (rw colon at h) (refl, refl))
  | inr colon ↦ elim (cases_Bool (c == 40)) [
    | inl parenthesis ↦ subst (λ b. StopsLeaf (b ∷ u)) (sym (eqb-true c 40 parenthesis)) (opens (begins_with 41 u) refl (rw (colon, parenthesis) at h))
    | inr parenthesis ↦ other (subst (λ b. cond b (not (begins_with 41 u)) (ends_name c) ≡ true) parenthesis (rw colon at h)) parenthesis
  ]
]
  where
    opens : (closes : Bool) → begins_with 41 u ≡ closes → not closes ≡ true → StopsLeaf (40 ∷ u)
    opens true e k = absurd (cc)
    opens false e k = rw e (refl, refl)

    other : ends_name c ≡ true → (c == 40) ≡ false → StopsLeaf (c ∷ u)
    other is = each_end (λ b. (b == 40) ≡ false → StopsLeaf (b ∷ u)) (λ e. (refl, refl)) (λ e. absurd (cc)) (λ e. (refl, refl)) (λ e. (refl, refl)) (λ e. (refl, refl)) (λ e. (refl, refl)) (λ e. (refl, refl)) (λ e. (refl, refl)) c is

ender_past : (c : ℕ) (u : List ℕ) → is_ender c ≡ true → is_past_name (c ∷ u) ≡ true
ender_past c u h = each_ender (λ b. is_past_name (b ∷ u) ≡ true) refl refl refl refl c h

-- what may follow a document is past its name
follower_is_past : (u : List ℕ) → IsDebugFollower u → is_past_name u ≡ true
follower_is_past [] h = refl
follower_is_past (c ∷ []) h = ender_past c [] h
follower_is_past (c ∷ b ∷ u) (inl h) = ender_past c (b ∷ u) h
follower_is_past (c ∷ b ∷ u) (inr (inl h)) = rw (h.0, h.1, h.2) refl
follower_is_past (c ∷ b ∷ u) (inr (inr h)) = rw h.0 refl

-- what may follow a block's name in a text, before an entry
parenthesis_past : {t : List ℕ} → Begins t → is_past_name (40 ∷ t) ≡ true
parenthesis_past begins = rw (begins_no begins 41 refl) refl

-- ---- how a text begins

-- the text begins with this name, and no byte of the name comes after it
pub record IsNamed (name text : List ℕ) : Type 0 where
  pub tail : List ℕ
  pub is : text ≡ name ++ tail
  pub some : name ≢ []
  pub ends : EndsLeaf beginning name
  pub past : is_past_name tail ≡ true
  pub seam : ends_in_colon name ≡ true → is_spaced tail ≡ false

-- no name begins with the byte
abbrev pub begins_none : ℕ → Type 0
begins_none c = is_debug_byte c || c == 58 ≡ false

-- no name is called so
abbrev pub BeginsNoName : List ℕ → Type 0
BeginsNoName [] = Unit {0}
BeginsNoName (c ∷ text) = begins_none c

-- the text begins with a bracket, and what is called its name is none
pub record IsBracketed (name text : List ℕ) : Type 0 where
  pub bracket : ℕ
  pub tail : List ℕ
  pub is : text ≡ bracket ∷ tail
  pub no_byte : begins_none bracket
  pub no_name : BeginsNoName name

named : (name tail text : List ℕ) → IsName Debug name → text ≡ name ++ tail → is_past_name tail ≡ true → IsNamed name text
named name tail text is whole past = record { tail = tail; is = whole; some = is.whole.some; ends = is.whole.pieces; past = past; seam = λ colon. absurd (cc (colon, is.ends)) }

-- a document's text begins with its name or with a bracket
pub document_begins : (s : Setting) (d : Document) (u : List ℕ) → IsBuilt Debug d → MayFollow Debug u
    → IsNamed (document_name d) (layout s d ++ u) ⊎ IsBracketed (document_name d) (layout s d ++ u)
document_begins s (leaf text) u is may = inl (record { tail = u; is = refl; some = is.some; ends = is.pieces; past = follower_is_past u may; seam = λ colon. follower_unspaced u may })
document_begins s (joined ds) u is may = absurd is
document_begins s (pretty_part d) u is may = absurd is
document_begins s (list_of ds) u is may = inr (record { bracket = 91; tail = _; is = refl; no_byte = refl; no_name = tt })
document_begins s (set_of ds) u is may = inr (record { bracket = 123; tail = _; is = refl; no_byte = refl; no_name = tt })
document_begins s (map_of ps) u is may = inr (record { bracket = 123; tail = _; is = refl; no_byte = refl; no_name = tt })
document_begins s (struct_of name no_fields) u is may = inl (named name u _ is.0 (append_assoc name [] u) (follower_is_past u may))
document_begins s (struct_of name (first_field field value fs)) u is may = inl (named name _ _ is.0 (append_assoc name _ u) refl)
document_begins s (non_exhaustive_of name no_fields) u is may = inl (named name _ _ is.1 (append_assoc name _ u) refl)
document_begins s (non_exhaustive_of name (first_field field value fs)) u is may = inl (named name _ _ is.1 (append_assoc name _ u) refl)
document_begins s (tuple_of [] no_documents) u is may = absurd (name_some Debug is)
document_begins s (tuple_of (c ∷ name) no_documents) u is may = inl (named (c ∷ name) u _ is (append_assoc (c ∷ name) [] u) (follower_is_past u may))
document_begins s (tuple_of [] (first_document d ds)) u is may = inr (record { bracket = 40; tail = _; is = refl; no_byte = refl; no_name = tt })
document_begins s (tuple_of (c ∷ name) (first_document d ds)) u is may =
    inl (named (c ∷ name) _ _ is.0 (append_assoc (c ∷ name) _ u)
    (parenthesis_past (Begins-append (begins_after (inside s).mode (inside s).depth (Begins-append (text_begins Debug (inside s) d is.1) _)) u)))

-- ---- the test of a name

other_bytes : (other name : List ℕ) → other ≢ name → bytes_eq other name ≡ false
other_bytes other name differs = false_from_ne_true (bytes_eq other name) (λ same. differs ((bytes_eq-Decides other name).0 same))

-- a text that doesn't begin with the name is another's
pub another_is_next : (name other text : List ℕ) → is_debug_name name ≡ true → IsNamed other text ⊎ IsBracketed other text → DoesNotBegin name text
    → bytes_eq other name ≡ false
another_is_next name other text is (inl named) refuses = other_bytes other name (λ same. refuses named.tail (named.is ∙ ap (λ w. w ++ named.tail) same))
another_is_next name other text is (inr bracketed) refuses = other_bytes other name (λ same. none_is name is (subst BeginsNoName same bracketed.no_name))
  where
    none_is : (name : List ℕ) → is_debug_name name ≡ true → BeginsNoName name → ⊥
    none_is [] is none = absurd (cc)
    none_is (c ∷ name) is none = absurd (cc (begins_name c name is, none))

-- a text that begins with the name is its own if and only if the name is over there
pub name_is_next : (name other text after : List ℕ) → is_debug_name name ≡ true → IsNamed other text ⊎ IsBracketed other text → text ≡ name ++ after
    → bytes_eq other name ≡ is_past_name after
name_is_next name other text after is (inl named) at = elim (cases_Bool (is_past_name after)) [
  | inl past ↦ rw past ((bytes_eq-Decides other name).1 (whole past))
  | inr past ↦ rw past (other_bytes other name (longer past))
]
  where
    whole : is_past_name after ≡ true → other ≡ name
    whole past = sym (leaf_from-append beginning other named.tail (some_begun beginning other named.some) named.ends (past_name_stops named.tail named.past) named.seam)
        ∙ ap (leaf_from beginning) (sym named.is ∙ at)
        ∙ leaf_from-append beginning name after (some_begun beginning name (name_is_some name is)) (name_ends name is) (past_name_stops after past) (λ colon. absurd (cc (colon, name_ends_in_no_colon name is)))

    longer : is_past_name after ≡ false → other ≢ name
    longer past same =
        let tails : named.tail ≡ after = append_cancel_left name named.tail after (ap (λ w. w ++ named.tail) (sym same) ∙ sym named.is ∙ at) in
        absurd (cc (named.past, ap is_past_name tails))
name_is_next [] other text after is (inr bracketed) at = absurd (cc)
name_is_next (c ∷ name) other text after is (inr bracketed) at =
    let same : bracketed.bracket ∷ bracketed.tail ≡ c ∷ (name ++ after) = sym bracketed.is ∙ at in
    absurd (cc (begins_name c name is, bracketed.no_byte))
