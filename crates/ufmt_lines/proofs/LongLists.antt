-- A list with several leaves doesn't begin as an address in brackets does, whatever follows it.
use Rattle.std.proofs.Common.{◌≡◌, inl, inr, ◌∙◌, refl, ap, ℕ, ◌==◌, true, false, cond, List, [], ◌∷◌, ◌++◌, append_assoc, codes, arith}
use Rattle.std.proofs.lemmas.Bool.Decides.{nat_tests}
use Rattle.std.proofs.lemmas.Bool.{cases_Bool}
use Rattle.ufmt.specs.Bytes.{closing_bracket}
use Rattle.ufmt.specs.Document.{Document, leaf, joined, list_of, set_of, map_of, struct_of, non_exhaustive_of, tuple_of, pretty_part, Documents, no_documents, first_document, no_pairs, first_pair, no_fields, first_field}
use Rattle.ufmt.specs.Layout.{block_tail, frame, plain_text, setting, texts}
use Rattle.ufmt.specs.Leaves.{is_ender, is_name_byte, is_opening, is_port, past}
use Rattle.ufmt.specs.Token.{IsBuilt}
use Rattle.ufmt_core.specs.declared.layout.Count.TheVariants.{One}
use Rattle.ufmt_core.specs.declared.layout.Kind.TheVariants.{Brackets}
use Rattle.ufmt_core.specs.declared.layout.Mode.TheVariants.{Plain}
use Rattle.ufmt_grammar.proofs.NoStarts.{IsSearch, address_by_port, document_past}
use Rattle.ufmt_grammar.proofs.ReadingComplete.{IsBlock, NoAddressIn}
use Rattle.ufmt_grammar.specs.declared.class.Class.TheVariants.{Debug}
use Rattle.ufmt_lines.proofs.BlockTexts.{block_texts}
use Rattle.ufmt_scan.specs.Fronts.{has_one_leaf}
use Rattle.ufmt_values.proofs.FirstBrackets.{Without}
use Rattle.ufmt_values.proofs.NameBrackets.{opening_no_ender, opening_no_name}

-- no bracket that closes an address is here
no_port : (c : ℕ) (t : List ℕ) → is_ender c ≡ false → is_port (c ∷ t) ≡ false
no_port c [] other = refl
no_port c (b ∷ []) other = refl
no_port c (b ∷ d ∷ t) other =
    let apart : (c == closing_bracket) ≡ false = grind (arith, nat_tests) in
    rw apart refl

port_search : IsSearch is_name_byte is_port
port_search = record { named = λ c h. h; none = no_port }

-- past the bytes of a name before an opening bracket
past_head : (head : List ℕ) (k : ℕ) (t : List ℕ) → Without is_ender head → is_opening k ≡ true → is_port (past is_name_byte (head ++ k ∷ t)) ≡ false
past_head [] k t none opens =
    ap (λ b. is_port (cond b (past is_name_byte t) (k ∷ t))) (opening_no_name k opens) ∙ no_port k t (opening_no_ender k opens)
past_head (c ∷ head) k t none opens = elim (cases_Bool (is_name_byte c)) [
  | inl is ↦ rw is (past_head head k t none.1 opens)
  | inr is ↦ rw is (no_port c (head ++ k ∷ t) none.0)
]

-- the only entry of such a list has entries
only_block : (d : Document) → IsBuilt Debug d → has_one_leaf (list_of (first_document d no_documents)) ≡ false → IsBlock d
only_block (leaf text) built several = absurd (cc)
only_block (joined ds) built several = absurd built
only_block (list_of no_documents) built several = absurd (cc)
only_block (list_of (first_document d ds)) built several = tt
only_block (set_of no_documents) built several = absurd (cc)
only_block (set_of (first_document d ds)) built several = tt
only_block (map_of no_pairs) built several = absurd (cc)
only_block (map_of (first_pair key value ps)) built several = tt
only_block (struct_of name no_fields) built several = absurd (cc)
only_block (struct_of name (first_field field value fs)) built several = tt
only_block (non_exhaustive_of name no_fields) built several = absurd (cc)
only_block (non_exhaustive_of name (first_field field value fs)) built several = tt
only_block (tuple_of name no_documents) built several = absurd (cc)
only_block (tuple_of name (first_document d ds)) built several = tt
only_block (pretty_part d) built several = absurd built

pub long_list : (d : Document) (ds : Documents) (rest : List ℕ) → IsBuilt Debug (list_of (first_document d ds)) → has_one_leaf (list_of (first_document d ds)) ≡ false
    → NoAddressIn Debug (setting Plain 0) (list_of (first_document d ds)) rest
long_list d no_documents rest built several =
    let b = block_texts d built.0 (only_block d built.0 several) in
    let t = (plain_text d ++ codes "]") ++ rest in
    let whole : t ≡ b.head ++ b.bracket ∷ (b.plain_tail ++ (codes "]" ++ rest)) =
    append_assoc (plain_text d) (codes "]") rest ∙ ap (λ x. x ++ (codes "]" ++ rest)) b.plain ∙ append_assoc b.head (b.bracket ∷ b.plain_tail) (codes "]" ++ rest) in
    address_by_port t (ap (λ x. is_port (past is_name_byte x)) whole ∙ past_head b.head b.bracket (b.plain_tail ++ (codes "]" ++ rest)) b.no_ender b.opens)
long_list d (first_document e es) rest built several =
    let tail = block_tail (frame Plain Brackets) (setting Plain 0) One (texts (setting Plain 0) (first_document e es)) in
    let t = (plain_text d ++ tail) ++ rest in
    address_by_port t (ap (λ x. is_port (past is_name_byte x)) (append_assoc (plain_text d) tail rest)
    ∙ document_past is_name_byte is_port port_search (setting Plain 0) d (tail ++ rest) built.0 (comma _))
  where
    comma : (u : List ℕ) → is_port (past is_name_byte (44 ∷ 32 ∷ u)) ≡ false
    comma [] = refl
    comma (c ∷ u) = refl
