-- Reading is complete: the text of a document of a class, before what may follow, is read as its normal form.
use Rattle.std.proofs.Common.{◌≡◌, ◌∙◌, refl, ap, sym, ℕ, zero, suc, ◌<◌, ◌≤◌, Bool, true, false, List, [], ◌∷◌, ◌++◌, Some, None, codes, append_assoc, append-nil, arith}
use Rattle.std.specs.Prelude.{⊤}
use Rattle.ufmt_core.specs.Bytes.{closing_brace, closing_bracket, closing_parenthesis}
use Rattle.ufmt_core.specs.Document.{Document, leaf, joined, list_of, set_of, map_of, struct_of, non_exhaustive_of, tuple_of, pretty_part, Documents, no_documents, first_document, Pairs, no_pairs, first_pair, Fields, no_fields, first_field, nest, nest_all, nest_pairs, nest_fields}
use Rattle.ufmt_core.specs.Layout.{frame, setting, inside, new_line, lead, trail, block_tail, layout, texts, pair_texts, field_texts}
use Rattle.ufmt_core.specs.declared.layout.Setting.{Setting}
use Rattle.ufmt_core.specs.declared.layout.Kind.TheVariants.{Brackets, Braces, Struct, Tuple, Unnamed}
use Rattle.ufmt_core.specs.declared.layout.Mode.TheVariants.{Pretty}
use Rattle.ufmt_core.specs.declared.layout.Count.TheVariants.{Zero, One}
use Rattle.ufmt_grammar.specs.Token.{Class, Token, Debug, MayEndInDots, OrEmpty, IsName, IsBuilt, AreBuilt, PairsAreBuilt, FieldsAreBuilt, normal, normal_all, normal_pairs, normal_fields, MayFollow}
use Rattle.ufmt_grammar.specs.Reading.{Parse, choose, strip, strip_dots, strip_only_dots, last_dots, list_with, set_with, map_with, tuple_with, struct_with, read_name, read_pair, read_tuple, read_struct, read_named, read_with, read}
use Rattle.ufmt_grammar.proofs.Parsing.{strip_joined}
use Rattle.ufmt_grammar.proofs.BlocksComplete.{IsRead, AreRead, NoDotsIn, StripsDots, entry_assoc, tail_follows, read_entries_complete, entries_complete, block_complete, after_first_complete, read_value_complete, read_pair_complete}
use Rattle.ufmt_grammar.proofs.DottedStructs.{rest_text, rest_text-false, dotted_layout}
use Rattle.ufmt_grammar.proofs.FramesClose.{Fits, fits_inside, fits_less, ender_begins_none, begins_after, closes, no_colon, name_no_dots, field_no_only_dots, dots_stripped}
use Rattle.ufmt_core.proofs.ListedDocuments.{listed, documents-listed, listed_pairs, pairs_of-listed_pairs, listed_fields, fields_of-listed_fields}
use Rattle.ufmt_grammar.proofs.NoStarts.{list_no_address, tuple_no_word, no_entry_no_address}
use Rattle.ufmt_grammar.proofs.TextsBegin.{document_begins}
use Rattle.ufmt_grammar.proofs.ClassLeaves.{Begins, Begins-append, name_begins, name_some, name_leaf, leaf_complete, follower_ends_front, IsNoAddress, stops_at_parenthesis, stops_at_space, colon_follows, read_name_complete, at_bracket, at_brace, at_parenthesis, no_symbol, name_leads}

-- a struct that has only dots is read after its name
only_dots_read : (class : Class) (s : Setting) (p : Parse Document) (name u : List ℕ) → MayEndInDots class
    → read_named class s p name (codes " { .. }" ++ u) ≡ Some (non_exhaustive_of name no_fields, u)
only_dots_read Token s p name u may = absurd may
only_dots_read Debug s p [] u may = refl
only_dots_read Debug s p (c ∷ name) u may = refl

-- a block with entries
abbrev pub IsBlock : Document → Type 0
IsBlock (leaf text) = ⊥
IsBlock (joined ds) = ⊥
IsBlock (list_of no_documents) = ⊥
IsBlock (list_of (first_document d ds)) = ⊤
IsBlock (set_of no_documents) = ⊥
IsBlock (set_of (first_document d ds)) = ⊤
IsBlock (map_of no_pairs) = ⊥
IsBlock (map_of (first_pair key value ps)) = ⊤
IsBlock (struct_of name no_fields) = ⊥
IsBlock (struct_of name (first_field field_name value fs)) = ⊤
IsBlock (non_exhaustive_of name no_fields) = ⊥
IsBlock (non_exhaustive_of name (first_field field_name value fs)) = ⊤
IsBlock (tuple_of name no_documents) = ⊥
IsBlock (tuple_of name (first_document d ds)) = ⊤
IsBlock (pretty_part d) = ⊥

module _ (class : Class) where
  -- at this mode and depth, `p` reads each document that is nested less than n deep
  pub record ReadsBelow (p : Parse Document) (i : Setting) (n : ℕ) : Type 0 where
    pub reads : (d : Document) → IsBuilt class d → nest d < n → IsRead class p (normal d) (layout i d)

  -- a name is read as a field's name
  field_name_read : (w : List ℕ) → IsName class w → IsRead class (read_name class) w w
  field_name_read w h = record { begins = name_begins class w h; reads = λ u follows. read_name_complete class w u h (follower_ends_front class u follows) }

  documents_complete : (p : Parse Document) (i : Setting) (n : ℕ) → ReadsBelow p i n → (ds : Documents) → AreBuilt class ds → nest_all ds < n
      → AreRead class p (listed (normal_all ds)) (texts i ds)
  unfolding listed
  documents_complete p i n below no_documents h less = tt
  documents_complete p i n below (first_document d ds) h less = (below.reads d h.0 (omega arith), documents_complete p i n below ds h.1 (omega arith))

  pairs_complete : (p : Parse Document) (i : Setting) (n : ℕ) → ReadsBelow p i n → (ps : Pairs) → PairsAreBuilt class ps → nest_pairs ps < n
      → AreRead class (read_pair p p) (listed_pairs (normal_pairs ps)) (pair_texts i ps)
  unfolding listed_pairs
  pairs_complete p i n below no_pairs h less = tt
  pairs_complete p i n below (first_pair key value ps) h less = (
    read_pair_complete class p p (normal key) (normal value) (layout i key) (layout i value) (below.reads key h.0 (omega arith))
        (below.reads value h.1 (omega arith)),
    pairs_complete p i n below ps h.2 (omega arith),
  )

  fields_complete : (p : Parse Document) (i : Setting) (n : ℕ) → ReadsBelow p i n → (fs : Fields) → FieldsAreBuilt class fs → nest_fields fs < n
      → AreRead class (read_pair (read_name class) p) (listed_fields (normal_fields fs)) (field_texts i fs)
  unfolding listed_fields
  fields_complete p i n below no_fields h less = tt
  fields_complete p i n below (first_field name value fs) h less = (
    read_pair_complete class (read_name class) p name (normal value) name (layout i value) (field_name_read name h.0)
        (below.reads value h.1 (omega arith)),
    fields_complete p i n below fs h.2 (omega arith),
  )

  -- the entries of a list, a set, a map or a tuple without a name begin with no closer
  entries_begin : (s : Setting) {text : List ℕ} → Begins text → (t u : List ℕ) → Begins ((new_line (inside s).mode (inside s).depth ++ (text ++ t)) ++ u)
  entries_begin s b t u = Begins-append (begins_after (inside s).mode (inside s).depth (Begins-append b t)) u

  -- a text that begins with the lead `start` is read in the first case of `choose`
  lead_chosen : {A : Type 0} (start text after left u : List ℕ) (f : List ℕ → A) (b : A)
      → choose (strip start ((start ++ (text ++ (after ++ left))) ++ u)) f b ≡ f (text ++ (after ++ (left ++ u)))
  lead_chosen start text after left u f b = rw (entry_assoc start text after left u, strip_joined start (text ++ (after ++ (left ++ u)))) refl

  -- a list with entries is read
  list_complete : (s : Setting) (p : Parse Document) (n : ℕ) → ReadsBelow p (inside s) n → Fits s n
      → (d : Document) (ds : Documents) (u : List ℕ) → IsBuilt class d → AreBuilt class ds → nest (list_of (first_document d ds)) ≤ n
      → IsNoAddress class (block_tail (frame s.mode Brackets) s Zero (texts (inside s) (first_document d ds)) ++ u)
      → read_with class s p (layout s (list_of (first_document d ds)) ++ u) ≡ Some (normal (list_of (first_document d ds)), u)
  list_complete s p n below fits d ds u h hs less none =
      let first : IsRead class p (normal d) (layout (inside s) d) = below.reads d h (omega arith) in
      let more : AreRead class p (listed (normal_all ds)) (texts (inside s) ds) = documents_complete p (inside s) n below ds hs (omega arith) in
      let close = closes class s Brackets (fits_less s 1 n (omega arith) fits) in
      at_bracket class s p (block_tail (frame s.mode Brackets) s Zero (texts (inside s) (first_document d ds)) ++ u) none
      ∙ rw (ender_begins_none closing_bracket [] refl (entries_begin s first.begins (trail s.mode ++ block_tail (frame s.mode Brackets) s One (texts (inside s) ds)) u))
      (rw (block_complete class p (frame s.mode Brackets) s list_with close (normal d) (listed (normal_all ds))
      (layout (inside s) d) (texts (inside s) ds) u first more)
      (ap (λ es. Some (list_of (first_document (normal d) es), u)) (documents-listed (normal_all ds))))

  -- a set with entries is read
  set_complete : (s : Setting) (p : Parse Document) (n : ℕ) → ReadsBelow p (inside s) n → Fits s n
      → (d : Document) (ds : Documents) (u : List ℕ) → IsBuilt class d → AreBuilt class ds → nest (set_of (first_document d ds)) ≤ n
      → read_with class s p (layout s (set_of (first_document d ds)) ++ u) ≡ Some (normal (set_of (first_document d ds)), u)
  set_complete s p n below fits d ds u h hs less =
      let first : IsRead class p (normal d) (layout (inside s) d) = below.reads d h (omega arith) in
      let more : AreRead class p (listed (normal_all ds)) (texts (inside s) ds) = documents_complete p (inside s) n below ds hs (omega arith) in
      let close = closes class s Braces (fits_less s 1 n (omega arith) fits) in
      let left : List ℕ = block_tail (frame s.mode Braces) s One (texts (inside s) ds) in
      at_brace class s p (block_tail (frame s.mode Braces) s Zero (texts (inside s) (first_document d ds)) ++ u)
      ∙ rw (ender_begins_none closing_brace [] refl (entries_begin s first.begins (trail s.mode ++ left) u))
      (rw (
        entry_assoc (lead (frame s.mode Braces) (inside s) Zero) (layout (inside s) d) (trail s.mode) left u,
        strip_joined (lead (frame s.mode Braces) (inside s) Zero) (layout (inside s) d ++ (trail s.mode ++ (left ++ u))),
      )
      (rw (
        first.reads (trail s.mode ++ (left ++ u)) (tail_follows class (frame s.mode Braces) s close Zero (texts (inside s) ds) u),
        no_colon s (texts (inside s) ds) u,
      )
      (rw (after_first_complete class p (frame s.mode Braces) s set_with close (normal d) (listed (normal_all ds))
      (texts (inside s) ds) u more)
      (ap (λ es. Some (set_of (first_document (normal d) es), u)) (documents-listed (normal_all ds))))))

  -- a map with entries is read
  map_complete : (s : Setting) (p : Parse Document) (n : ℕ) → ReadsBelow p (inside s) n → Fits s n
      → (key value : Document) (ps : Pairs) (u : List ℕ) → IsBuilt class key → IsBuilt class value → PairsAreBuilt class ps
      → nest (map_of (first_pair key value ps)) ≤ n → read_with class s p (layout s (map_of (first_pair key value ps)) ++ u) ≡ Some (normal (map_of (first_pair key value ps)), u)
  map_complete s p n below fits key value ps u hk hv hs less =
      let first : IsRead class p (normal key) (layout (inside s) key) = below.reads key hk (omega arith) in
      let second : IsRead class p (normal value) (layout (inside s) value) = below.reads value hv (omega arith) in
      let more : AreRead class (read_pair p p) (listed_pairs (normal_pairs ps)) (pair_texts (inside s) ps) = pairs_complete p (inside s) n below ps hs (omega arith) in
      let close = closes class s Braces (fits_less s 1 n (omega arith) fits) in
      let left : List ℕ = block_tail (frame s.mode Braces) s One (pair_texts (inside s) ps) in
      let entry : List ℕ = layout (inside s) key ++ (codes ": " ++ layout (inside s) value) in
      at_brace class s p (block_tail (frame s.mode Braces) s Zero (pair_texts (inside s) (first_pair key value ps)) ++ u)
      ∙ rw (ender_begins_none closing_brace [] refl (entries_begin s (Begins-append first.begins (codes ": " ++ layout (inside s) value)) (trail s.mode ++ left) u))
      (rw (
        entry_assoc (lead (frame s.mode Braces) (inside s) Zero) entry (trail s.mode) left u,
        strip_joined (lead (frame s.mode Braces) (inside s) Zero) (entry ++ (trail s.mode ++ (left ++ u))),
      )
      (rw (
        append_assoc (layout (inside s) key) (codes ": " ++ layout (inside s) value) (trail s.mode ++ (left ++ u)),
        first.reads (codes ": " ++ (layout (inside s) value ++ (trail s.mode ++ (left ++ u)))) (colon_follows class _ (Begins-append second.begins (trail s.mode ++ (left ++ u)))),
      )
      (rw (read_value_complete class p (normal key) (normal value) (layout (inside s) value) (trail s.mode ++ (left ++ u)) second
      (tail_follows class (frame s.mode Braces) s close Zero (pair_texts (inside s) ps) u))
      (rw (after_first_complete class (read_pair p p) (frame s.mode Braces) s map_with close (normal key, normal value)
      (listed_pairs (normal_pairs ps)) (pair_texts (inside s) ps) u more)
      (ap (λ es. Some (map_of (first_pair (normal key) (normal value) es), u)) (pairs_of-listed_pairs (normal_pairs ps)))))))

  -- no field begins with dots
  no_field_begins : (s i : Setting) (fs : Fields) → FieldsAreBuilt class fs → NoDotsIn class (strip_dots class s) (field_texts i fs)
  no_field_begins s i no_fields h = tt
  no_field_begins s i (first_field name value fs) h = (
    λ u. ap (strip_dots class s) (append_assoc name (codes ": " ++ layout i value) u) ∙ name_no_dots class s name (layout i value ++ u) h.0 (Begins-append (document_begins class i value h.1) u),
    no_field_begins s i fs h.2,
  )

  struct_assoc : (start name value after left u : List ℕ)
      → (start ++ ((name ++ (codes ": " ++ value)) ++ (after ++ left))) ++ u ≡ start ++ (name ++ (codes ": " ++ (value ++ (after ++ (left ++ u)))))
  struct_assoc start name value after left u = simp append_assoc

  -- a struct with fields is read, whether it ends in dots or not
  fields_read : (s : Setting) (p : Parse Document) (n : ℕ) → ReadsBelow p (inside s) n → Fits s n → (b : Bool) → StripsDots class (strip_dots class s) (last_dots s) b
      → (name field_name : List ℕ) (value : Document) (fs : Fields) (u : List ℕ) → IsName class name → IsName class field_name → IsBuilt class value → FieldsAreBuilt class fs
      → nest (struct_of name (first_field field_name value fs)) ≤ n
      → read_with class s p ((name ++ rest_text (frame s.mode Struct) s (last_dots s) Zero (field_texts (inside s) (first_field field_name value fs)) b) ++ u)
      ≡ Some (struct_with name ((field_name, normal value) ∷ listed_fields (normal_fields fs), b), u)
  fields_read s p n below fits b strips [] field_name value fs u hn hl hv hs less = absurd (name_some class hn)
  fields_read s p n below fits b strips (c ∷ name) field_name value fs u hn hl hv hs less =
      let f = frame s.mode Struct in
      let entry : List ℕ = field_name ++ (codes ": " ++ layout (inside s) value) in
      let first : IsRead class (read_pair (read_name class) p) (field_name, normal value) entry = read_pair_complete class (read_name class) p field_name (normal value) field_name (layout (inside s) value) (field_name_read field_name hl) (below.reads value hv (omega arith)) in
      let more : AreRead class (read_pair (read_name class) p) (listed_fields (normal_fields fs)) (field_texts (inside s) fs) = fields_complete p (inside s) n below fs hs (omega arith) in
      let close = closes class s Struct (fits_less s 1 n (omega arith) fits) in
      let left : List ℕ = rest_text f s (last_dots s) One (field_texts (inside s) fs) b in
      let start : List ℕ = lead f (inside s) Zero in
      let some_field : strip_only_dots class ((start ++ (entry ++ (trail s.mode ++ left))) ++ u) ≡ None = ap (strip_only_dots class) (struct_assoc start field_name (layout (inside s) value) (trail s.mode) left u) ∙ field_no_only_dots class s field_name (layout (inside s) value ++ (trail s.mode ++ (left ++ u))) hl (Begins-append (document_begins class (inside s) value hv) (trail s.mode ++ (left ++ u))) in
      name_leads class s p (c ∷ name) (start ++ (entry ++ (trail s.mode ++ left))) u hn (stops_at_space class _)
      ∙ (ap (λ o. choose o (λ v. Some (non_exhaustive_of (c ∷ name) no_fields, v)) (choose (strip start ((start ++ (entry ++ (trail s.mode ++ left))) ++ u)) (read_struct class s p (c ∷ name)) (Some (leaf (c ∷ name), (start ++ (entry ++ (trail s.mode ++ left))) ++ u)))) some_field
      ∙ (lead_chosen start entry (trail s.mode) left u (read_struct class s p (c ∷ name)) (Some (leaf (c ∷ name), (start ++ (entry ++ (trail s.mode ++ left))) ++ u))
      ∙ read_entries_complete class (read_pair (read_name class) p) (strip_dots class s) f s close (last_dots s) b strips (struct_with (c ∷ name))
      (field_name, normal value) (listed_fields (normal_fields fs)) entry (field_texts (inside s) fs) u first more (no_field_begins s (inside s) fs hs)))

  -- a struct with fields is read
  struct_complete : (s : Setting) (p : Parse Document) (n : ℕ) → ReadsBelow p (inside s) n → Fits s n
      → (name field_name : List ℕ) (value : Document) (fs : Fields) (u : List ℕ) → IsName class name → IsName class field_name → IsBuilt class value → FieldsAreBuilt class fs
      → nest (struct_of name (first_field field_name value fs)) ≤ n
      → read_with class s p (layout s (struct_of name (first_field field_name value fs)) ++ u) ≡ Some (normal (struct_of name (first_field field_name value fs)), u)
  struct_complete s p n below fits name field_name value fs u hn hl hv hs less =
      ap (λ t. read_with class s p ((name ++ t) ++ u)) (sym (rest_text-false (frame s.mode Struct) s (last_dots s) Zero (field_texts (inside s) (first_field field_name value fs))))
      ∙ fields_read s p n below fits false tt name field_name value fs u hn hl hv hs less
      ∙ ap (λ es. Some (struct_of name (first_field field_name (normal value) es), u)) (fields_of-listed_fields (normal_fields fs))

  -- a struct that ends in dots is read
  dotted_complete : (s : Setting) (p : Parse Document) (n : ℕ) → ReadsBelow p (inside s) n → Fits s n
      → (name : List ℕ) (fs : Fields) (u : List ℕ) → MayEndInDots class → IsName class name → FieldsAreBuilt class fs → nest (non_exhaustive_of name fs) ≤ n
      → read_with class s p (layout s (non_exhaustive_of name fs) ++ u) ≡ Some (normal (non_exhaustive_of name fs), u)
  dotted_complete s p n below fits [] fs u may hn hs less = absurd (name_some class hn)
  dotted_complete s p n below fits (c ∷ name) no_fields u may hn hs less =
      name_leads class s p (c ∷ name) (codes " { .. }") u hn (stops_at_space class _) ∙ only_dots_read class s p (c ∷ name) u may
  dotted_complete s p n below fits (c ∷ name) (first_field field_name value fs) u may hn hs less =
      ap (λ t. read_with class s p (t ++ u)) (dotted_layout s (c ∷ name) field_name value fs)
      ∙ fields_read s p n below fits true (dots_stripped class s may) (c ∷ name) field_name value fs u hn hs.0 hs.1 hs.2 less
      ∙ ap (λ es. Some (non_exhaustive_of (c ∷ name) (first_field field_name (normal value) es), u)) (fields_of-listed_fields (normal_fields fs))

  -- a tuple with fields is read
  tuple_complete : (s : Setting) (p : Parse Document) (n : ℕ) → ReadsBelow p (inside s) n → Fits s n
      → (name : List ℕ) (d : Document) (ds : Documents) (u : List ℕ) → OrEmpty (IsName class) name → IsBuilt class d → AreBuilt class ds
      → nest (tuple_of name (first_document d ds)) ≤ n
      → read_with class s p (layout s (tuple_of name (first_document d ds)) ++ u) ≡ Some (normal (tuple_of name (first_document d ds)), u)
  tuple_complete s p n below fits [] d ds u hn h hs less =
      let first : IsRead class p (normal d) (layout (inside s) d) = below.reads d h (omega arith) in
      let more : AreRead class p (listed (normal_all ds)) (texts (inside s) ds) = documents_complete p (inside s) n below ds hs (omega arith) in
      let close = closes class s Unnamed (fits_less s 1 n (omega arith) fits) in
      let begins = entries_begin s first.begins (trail s.mode ++ block_tail (frame s.mode Unnamed) s One (texts (inside s) ds)) u in
      at_parenthesis class s p ((new_line (inside s).mode (inside s).depth
      ++ (layout (inside s) d ++ (trail s.mode ++ block_tail (frame s.mode Unnamed) s One (texts (inside s) ds)))) ++ u) begins (tuple_no_word class s d (texts (inside s) ds) u h)
      ∙ rw (no_symbol class _ (ender_begins_none closing_parenthesis [] refl begins))
      (rw (block_complete class p (frame s.mode Unnamed) s (tuple_with []) close (normal d) (listed (normal_all ds))
      (layout (inside s) d) (texts (inside s) ds) u first more)
      (ap (λ es. Some (tuple_of [] (first_document (normal d) es), u)) (documents-listed (normal_all ds))))
  tuple_complete s p n below fits (c ∷ name) d ds u hn h hs less =
      let first : IsRead class p (normal d) (layout (inside s) d) = below.reads d h (omega arith) in
      let more : AreRead class p (listed (normal_all ds)) (texts (inside s) ds) = documents_complete p (inside s) n below ds hs (omega arith) in
      let close = closes class s Tuple (fits_less s 1 n (omega arith) fits) in
      let left : List ℕ = block_tail (frame s.mode Tuple) s One (texts (inside s) ds) in
      let start : List ℕ = lead (frame s.mode Tuple) (inside s) Zero in
      name_leads class s p (c ∷ name) (start ++ (layout (inside s) d ++ (trail s.mode ++ left))) u hn (stops_at_parenthesis class _ (entries_begin s first.begins (trail s.mode ++ left) u))
      ∙ (lead_chosen start (layout (inside s) d) (trail s.mode) left u (read_tuple s p (c ∷ name))
      _
      ∙ (entries_complete class p (frame s.mode Tuple) s (tuple_with (c ∷ name)) close (normal d) (listed (normal_all ds))
      (layout (inside s) d) (texts (inside s) ds) u first more
      ∙ (ap (λ es. Some (tuple_of (c ∷ name) (first_document (normal d) es), u)) (documents-listed (normal_all ds)))))

  -- a struct or tuple without fields is read as the leaf of its name
  name_complete : (s : Setting) (p : Parse Document) (name u : List ℕ) → IsName class name → MayFollow class u → read_with class s p ((name ++ []) ++ u) ≡ Some (leaf name, u)
  name_complete s p name u h follows = rw (append-nil name) (leaf_complete class s p name u (name_leaf class name h) follows)

  -- a document is read if its entries are read
  read_with_complete : (s : Setting) (p : Parse Document) (n : ℕ) → ReadsBelow p (inside s) n → Fits s n → (d : Document) (u : List ℕ)
      → IsBuilt class d → nest d ≤ n → MayFollow class u → read_with class s p (layout s d ++ u) ≡ Some (normal d, u)
  read_with_complete s p n below fits (leaf text) u h less follows = leaf_complete class s p text u h follows
  read_with_complete s p n below fits (joined ds) u h less follows = absurd h
  read_with_complete s p n below fits (list_of no_documents) u h less follows = at_bracket class s p (closing_bracket ∷ u) (no_entry_no_address class u)
  read_with_complete s p n below fits (list_of (first_document d ds)) u h less follows = list_complete s p n below fits d ds u h.0 h.1 less (list_no_address class s d (texts (inside s) ds) u h.0 follows)
  read_with_complete s p n below fits (set_of no_documents) u h less follows = at_brace class s p (closing_brace ∷ u)
  read_with_complete s p n below fits (set_of (first_document d ds)) u h less follows = set_complete s p n below fits d ds u h.0 h.1 less
  read_with_complete s p n below fits (map_of no_pairs) u h less follows = at_brace class s p (closing_brace ∷ u)
  read_with_complete s p n below fits (map_of (first_pair key value ps)) u h less follows = map_complete s p n below fits key value ps u h.0 h.1 h.2 less
  read_with_complete s p n below fits (struct_of name no_fields) u h less follows = name_complete s p name u h.0 follows
  read_with_complete s p n below fits (struct_of name (first_field field_name value fs)) u h less follows =
      struct_complete s p n below fits name field_name value fs u h.0 h.1.0 h.1.1 h.1.2 less
  read_with_complete s p n below fits (tuple_of [] no_documents) u h less follows = absurd (name_some class h)
  read_with_complete s p n below fits (tuple_of (c ∷ name) no_documents) u h less follows = name_complete s p (c ∷ name) u h follows
  read_with_complete s p n below fits (tuple_of name (first_document d ds)) u h less follows = tuple_complete s p n below fits name d ds u h.0 h.1 h.2 less
  read_with_complete s p n below fits (non_exhaustive_of name fs) u h less follows = dotted_complete s p n below fits name fs u h.0 h.1 h.2 less
  read_with_complete s p n below fits (pretty_part d) u h less follows = absurd h

  pub read_complete : (n : ℕ) (s : Setting) (d : Document) (u : List ℕ) → IsBuilt class d → nest d ≤ n → Fits s n → MayFollow class u
      → read class s n (layout s d ++ u) ≡ Some (normal d, u)
  unfolding read
  read_complete zero s d u h less fits follows =
      read_with_complete s (λ t. None) zero (record { reads = λ e w below. absurd (omega arith) }) fits d u h less follows
  read_complete (suc n) s d u h less fits follows =
      read_with_complete s (read class (inside s) n) (suc n)
      (record {
        reads = λ e w under. record {
          begins = document_begins class (inside s) e w;
          reads = λ v after. read_complete n (inside s) e v w (omega arith) (fits_inside s n fits) after;
        };
      }) fits d u h less follows

  -- before this text, a list with entries is no address
  abbrev pub NoAddressIn : Setting → Document → List ℕ → Type 0
  NoAddressIn s (leaf text) u = ⊤
  NoAddressIn s (joined ds) u = ⊤
  NoAddressIn s (list_of no_documents) u = ⊤
  NoAddressIn s (list_of (first_document d ds)) u = IsNoAddress class (block_tail (frame s.mode Brackets) s Zero (texts (inside s) (first_document d ds)) ++ u)
  NoAddressIn s (set_of ds) u = ⊤
  NoAddressIn s (map_of ps) u = ⊤
  NoAddressIn s (struct_of name fs) u = ⊤
  NoAddressIn s (non_exhaustive_of name fs) u = ⊤
  NoAddressIn s (tuple_of name ds) u = ⊤
  NoAddressIn s (pretty_part d) u = ⊤

  -- a block with entries is read if its entries are, whatever follows it, but for what makes a list an address
  block_with_complete : (s : Setting) (p : Parse Document) (n : ℕ) → ReadsBelow p (inside s) n → Fits s n → (d : Document) (u : List ℕ)
      → IsBuilt class d → IsBlock d → nest d ≤ n → NoAddressIn s d u → read_with class s p (layout s d ++ u) ≡ Some (normal d, u)
  block_with_complete s p n below fits (leaf text) u h block less none = absurd block
  block_with_complete s p n below fits (joined ds) u h block less none = absurd block
  block_with_complete s p n below fits (list_of no_documents) u h block less none = absurd block
  block_with_complete s p n below fits (list_of (first_document d ds)) u h block less none = list_complete s p n below fits d ds u h.0 h.1 less none
  block_with_complete s p n below fits (set_of no_documents) u h block less none = absurd block
  block_with_complete s p n below fits (set_of (first_document d ds)) u h block less none = set_complete s p n below fits d ds u h.0 h.1 less
  block_with_complete s p n below fits (map_of no_pairs) u h block less none = absurd block
  block_with_complete s p n below fits (map_of (first_pair key value ps)) u h block less none = map_complete s p n below fits key value ps u h.0 h.1 h.2 less
  block_with_complete s p n below fits (struct_of name no_fields) u h block less none = absurd block
  block_with_complete s p n below fits (struct_of name (first_field field_name value fs)) u h block less none =
      struct_complete s p n below fits name field_name value fs u h.0 h.1.0 h.1.1 h.1.2 less
  block_with_complete s p n below fits (tuple_of name no_documents) u h block less none = absurd block
  block_with_complete s p n below fits (tuple_of name (first_document d ds)) u h block less none = tuple_complete s p n below fits name d ds u h.0 h.1 h.2 less
  block_with_complete s p n below fits (non_exhaustive_of name no_fields) u h block less none = absurd block
  block_with_complete s p n below fits (non_exhaustive_of name (first_field field_name value fs)) u h block less none =
      dotted_complete s p n below fits name (first_field field_name value fs) u h.0 h.1 h.2 less
  block_with_complete s p n below fits (pretty_part d) u h block less none = absurd block

  -- a block with entries is read as its normal form so
  pub block_read : (n : ℕ) (s : Setting) (d : Document) (u : List ℕ) → IsBuilt class d → IsBlock d → nest d ≤ n → Fits s n → NoAddressIn s d u
      → read class s n (layout s d ++ u) ≡ Some (normal d, u)
  unfolding read
  block_read zero s d u h block less fits none =
      block_with_complete s (λ t. None) zero (record { reads = λ e w below. absurd (omega arith) }) fits d u h block less none
  block_read (suc n) s d u h block less fits none =
      block_with_complete s (read class (inside s) n) (suc n)
      (record {
        reads = λ e w under. record {
          begins = document_begins class (inside s) e w;
          reads = λ v after. read_complete n (inside s) e v w (omega arith) (fits_inside s n fits) after;
        };
      }) fits d u h block less none

  -- in pretty mode a line feed comes after a list's bracket
  pub pretty_no_address : (k : ℕ) (d : Document) (u : List ℕ) → NoAddressIn (setting Pretty k) d u
  pretty_no_address k (leaf text) u = tt
  pretty_no_address k (joined ds) u = tt
  pretty_no_address k (list_of no_documents) u = tt
  pretty_no_address k (list_of (first_document d ds)) u =
      elim class as (λ class. IsNoAddress class (block_tail (frame Pretty Brackets) (setting Pretty k) Zero (texts (inside (setting Pretty k)) (first_document d ds)) ++ u)) [ Token ↦ tt | Debug ↦ refl ]
  pretty_no_address k (set_of ds) u = tt
  pretty_no_address k (map_of ps) u = tt
  pretty_no_address k (struct_of name fs) u = tt
  pretty_no_address k (non_exhaustive_of name fs) u = tt
  pretty_no_address k (tuple_of name ds) u = tt
  pretty_no_address k (pretty_part d) u = tt
