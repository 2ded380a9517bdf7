-- Reading a block in any frame is complete if reading its entries is complete.
use Rattle.std.proofs.Common.{◌≡◌, refl, ap, sym, ℕ, zero, suc, ◌<◌, ◌≤◌, Bool, true, false, List, [], ◌∷◌, ◌++◌, length, Some, None, codes, append_assoc, arith, length-append}
use Rattle.std.specs.Prelude.{⊤}
use Rattle.ufmt_core.specs.Bytes.{comma}
use Rattle.ufmt_core.specs.Document.{Document}
use Rattle.ufmt_core.specs.Layout.{Frame, setting, inside, entry_depth, lead, ending, trail, next, block_tail}
use Rattle.ufmt_core.specs.declared.layout.Mode.{Mode}
use Rattle.ufmt_core.specs.declared.layout.Mode.TheVariants.{Plain, Pretty}
use Rattle.ufmt_core.specs.declared.layout.Setting.{Setting}
use Rattle.ufmt_core.specs.declared.layout.Count.{Count}
use Rattle.ufmt_core.specs.declared.layout.Count.TheVariants.{Zero, One, Several}
use Rattle.ufmt_grammar.specs.Leaves.{Class, MayFollow}
use Rattle.ufmt_grammar.specs.Reading.{Parse, Dots, Rest, no_dots, with_entry, strip, read_value, read_pair, read_after_entry, read_turn, read_rest, read_others, read_after_first, read_entries, read_block}
use Rattle.ufmt_grammar.proofs.ClassLeaves.{Begins, Begins-append, ender_follows, colon_follows}
use Rattle.ufmt_grammar.proofs.DottedStructs.{rest_text, rest_text-false}
use Rattle.ufmt_grammar.proofs.Parsing.{strip_joined}

pub entry_assoc : (a b c d u : List ℕ) → (a ++ (b ++ (c ++ d))) ++ u ≡ a ++ (b ++ (c ++ (d ++ u)))
entry_assoc a b c d u = simp append_assoc

module _ (class : Class) where
  -- this text is read as this value, whatever text that may follow is after it
  pub record IsRead {A : Type 0} (q : Parse A) (x : A) (text : List ℕ) : Type 0 where
    pub begins : Begins text
    pub reads : (u : List ℕ) → MayFollow class u → q (text ++ u) ≡ Some (x, u)

  -- each text is read as the value at its place
  abbrev pub AreRead : {A : Type 0} → Parse A → List A → List (List ℕ) → Type 0
  AreRead q [] [] = ⊤
  AreRead q [] (text ∷ texts) = ⊥
  AreRead q (x ∷ xs) [] = ⊥
  AreRead q (x ∷ xs) (text ∷ texts) = IsRead q x text × AreRead q xs texts

  -- none of these entries begins with the dots
  abbrev pub NoDotsIn : Dots → List (List ℕ) → Type 0
  NoDotsIn dots [] = ⊤
  NoDotsIn dots (text ∷ texts) = ((u : List ℕ) → dots (text ++ u) ≡ None) × NoDotsIn dots texts

  pub no_dots_in : (texts : List (List ℕ)) → NoDotsIn no_dots texts
  no_dots_in [] = tt
  no_dots_in (text ∷ texts) = (λ u. refl, no_dots_in texts)

  -- if a block ends in dots, `close` is stripped as the dots
  abbrev pub StripsDots : Dots → List ℕ → Bool → Type 0
  StripsDots dots close false = ⊤
  StripsDots dots close true = (u : List ℕ) → dots (close ++ u) ≡ Some u

  -- the ending of a block with entries may follow an entry, and differs from another entry
  pub record Closes (f : Frame) (s : Setting) : Type 0 where
    pub follows : (count : Count) (u : List ℕ) → MayFollow class (trail s.mode ++ (ending f s (next count) ++ u))
    pub differs : (count : Count) (u : List ℕ) → strip (lead f (inside s) (next count)) (ending f s (next count) ++ u) ≡ None

  -- the lead of another entry may follow an entry
  entry_follows : (mode : Mode) (k : ℕ) (f : Frame) (count : Count) (u : List ℕ) → MayFollow class (trail mode ++ (lead f (setting mode k) (next count) ++ u))
  entry_follows Plain k f Zero u = ender_follows class comma _ refl
  entry_follows Plain k f One u = ender_follows class comma _ refl
  entry_follows Plain k f Several u = ender_follows class comma _ refl
  entry_follows Pretty k f count u = ender_follows class comma _ refl

  -- the rest of a block may follow an entry
  pub rest_follows : (f : Frame) (s : Setting) → Closes f s → (close : List ℕ) (b : Bool) (count : Count) (texts : List (List ℕ)) (u : List ℕ)
      → MayFollow class (trail s.mode ++ (rest_text f s close (next count) texts b ++ u))
  rest_follows f s closes close false count [] u = closes.follows count u
  rest_follows f s closes close true count [] u =
      rw (append_assoc (lead f (inside s) (next count)) close u) (entry_follows s.mode (entry_depth s.mode s.depth) f count (close ++ u))
  rest_follows f s closes close b count (text ∷ texts) u =
      rw (entry_assoc (lead f (inside s) (next count)) text (trail s.mode) (rest_text f s close (next (next count)) texts b) u)
      (entry_follows s.mode (entry_depth s.mode s.depth) f count (text ++ (trail s.mode ++ (rest_text f s close (next (next count)) texts b ++ u))))

  -- the same of a block that doesn't end in dots
  pub tail_follows : (f : Frame) (s : Setting) → Closes f s → (count : Count) (texts : List (List ℕ)) (u : List ℕ)
      → MayFollow class (trail s.mode ++ (block_tail f s (next count) texts ++ u))
  tail_follows f s closes count texts u = rw (sym (rest_text-false f s [] (next count) texts)) (rest_follows f s closes [] false count texts u)

  read_after_entry_complete : {A : Type 0} (mode : Mode) (more : Parse (Rest A)) (x : A) (left : Rest A) (t u : List ℕ) → more t ≡ Some (left, u)
      → read_after_entry mode more x (trail mode ++ t) ≡ Some (with_entry x left, u)
  read_after_entry_complete mode more x left t u e = rw (strip_joined (trail mode) t, e) refl

  read_turn_complete : {A : Type 0} (q : Parse A) (mode : Mode) (more : Parse (Rest A)) (x : A) (left : Rest A) (text t u : List ℕ)
      → IsRead q x text → MayFollow class (trail mode ++ t) → more t ≡ Some (left, u) → read_turn q mode more (text ++ (trail mode ++ t)) ≡ Some (with_entry x left, u)
  read_turn_complete q mode more x left text t u h follows e = rw (h.reads (trail mode ++ t) follows) (read_after_entry_complete mode more x left t u e)

  module _ {A : Type 0} (q : Parse A) (dots : Dots) (f : Frame) (s : Setting) (closes : Closes f s) (close : List ℕ) (b : Bool) (strips : StripsDots dots close b) where
    -- the rest of a block is read in more turns than it has entries
    read_rest_complete : (count : Count) (n : ℕ) (xs : List A) (texts : List (List ℕ)) (u : List ℕ) → AreRead q xs texts → NoDotsIn dots texts → length texts < n
        → read_rest q dots f s (next count) n (rest_text f s close (next count) texts b ++ u) ≡ Some ((xs, b), u)
    unfolding read_rest
    read_rest_complete count zero xs texts u h none less = absurd (omega arith)
    read_rest_complete count (suc n) [] [] u h none less = end b strips
      where
        end : (b : Bool) → StripsDots dots close b → read_rest q dots f s (next count) (suc n) (rest_text f s close (next count) [] b ++ u) ≡ Some (([], b), u)
        end false strips = rw (closes.differs count u, strip_joined (ending f s (next count)) u) refl
        end true strips = rw (append_assoc (lead f (inside s) (next count)) close u, strip_joined (lead f (inside s) (next count)) (close ++ u), strips u) refl
    read_rest_complete count (suc n) [] (text ∷ texts) u h none less = absurd h
    read_rest_complete count (suc n) (x ∷ xs) [] u h none less = absurd h
    read_rest_complete count (suc n) (x ∷ xs) (text ∷ texts) u h none less =
        let left : List ℕ = rest_text f s close (next (next count)) texts b ++ u in
        rw (
          entry_assoc (lead f (inside s) (next count)) text (trail s.mode) (rest_text f s close (next (next count)) texts b) u,
          strip_joined (lead f (inside s) (next count)) (text ++ (trail s.mode ++ left)),
          none.0 (trail s.mode ++ left),
        )
        (read_turn_complete q s.mode (read_rest q dots f s (next (next count)) n) x (xs, b) text left u h.0 (rest_follows f s closes close b (next count) texts u)
        (read_rest_complete (next count) n xs texts u h.1 none.1 (omega arith)))

    -- the rest of a block has no more entries than bytes
    entries_within : (count : Count) (xs : List A) (texts : List (List ℕ)) → AreRead q xs texts → length texts ≤ length (rest_text f s close count texts b)
    entries_within count [] [] h = omega arith
    entries_within count [] (text ∷ texts) h = absurd h
    entries_within count (x ∷ xs) [] h = absurd h
    entries_within count (x ∷ xs) (text ∷ texts) h =
        let some : length text ≡ suc (length h.0.begins.tail) = ap length h.0.begins.is in
        let below : length texts ≤ length (rest_text f s close (next count) texts b) = entries_within (next count) xs texts h.1 in
        rw (
          length-append (lead f (inside s) count) (text ++ (trail s.mode ++ rest_text f s close (next count) texts b)),
          length-append text (trail s.mode ++ rest_text f s close (next count) texts b),
          length-append (trail s.mode) (rest_text f s close (next count) texts b),
        )
        (omega arith)

    -- the rest of a block is read
    read_others_complete : (xs : List A) (texts : List (List ℕ)) (u : List ℕ) → AreRead q xs texts → NoDotsIn dots texts
        → read_others q dots f s One (rest_text f s close One texts b ++ u) ≡ Some ((xs, b), u)
    read_others_complete xs texts u h none =
        read_rest_complete Zero (suc (length (rest_text f s close One texts b ++ u))) xs texts u h none (rw (length-append (rest_text f s close One texts b) u) (let below = entries_within One xs texts h in omega arith))

    -- a block is read after its first entry
    pub read_after_first_complete : (make : Rest A → Document) (x : A) (xs : List A) (texts : List (List ℕ)) (u : List ℕ) → AreRead q xs texts → NoDotsIn dots texts
        → read_after_first q dots f s make x (trail s.mode ++ (rest_text f s close One texts b ++ u)) ≡ Some (make (x ∷ xs, b), u)
    read_after_first_complete make x xs texts u h none =
        rw (read_after_entry_complete s.mode (read_others q dots f s One) x (xs, b) (rest_text f s close One texts b ++ u) u (read_others_complete xs texts u h none)) refl

    -- a block is read from its first entry on
    pub read_entries_complete : (make : Rest A → Document) (x : A) (xs : List A) (text : List ℕ) (texts : List (List ℕ)) (u : List ℕ)
        → IsRead q x text → AreRead q xs texts → NoDotsIn dots texts
        → read_entries q dots f s make (text ++ (trail s.mode ++ (rest_text f s close One texts b ++ u))) ≡ Some (make (x ∷ xs, b), u)
    read_entries_complete make x xs text texts u h hs none =
        rw (h.reads (trail s.mode ++ (rest_text f s close One texts b ++ u)) (rest_follows f s closes close b Zero texts u))
        (read_after_first_complete make x xs texts u hs none)

  -- the same of blocks that never end in dots
  module _ {A : Type 0} (q : Parse A) (f : Frame) (s : Setting) (make : Rest A → Document) (closes : Closes f s) where
    pub after_first_complete : (x : A) (xs : List A) (texts : List (List ℕ)) (u : List ℕ) → AreRead q xs texts
        → read_after_first q no_dots f s make x (trail s.mode ++ (block_tail f s One texts ++ u)) ≡ Some (make (x ∷ xs, false), u)
    after_first_complete x xs texts u h =
        rw (sym (rest_text-false f s [] One texts)) (read_after_first_complete q no_dots f s closes [] false tt make x xs texts u h (no_dots_in texts))

    pub entries_complete : (x : A) (xs : List A) (text : List ℕ) (texts : List (List ℕ)) (u : List ℕ) → IsRead q x text → AreRead q xs texts
        → read_entries q no_dots f s make (text ++ (trail s.mode ++ (block_tail f s One texts ++ u))) ≡ Some (make (x ∷ xs, false), u)
    entries_complete x xs text texts u h hs =
        rw (sym (rest_text-false f s [] One texts)) (read_entries_complete q no_dots f s closes [] false tt make x xs text texts u h hs (no_dots_in texts))

    -- a block with entries is read after its opening
    pub block_complete : (x : A) (xs : List A) (text : List ℕ) (texts : List (List ℕ)) (u : List ℕ) → IsRead q x text → AreRead q xs texts
        → read_block q no_dots f s make (block_tail f s Zero (text ∷ texts) ++ u) ≡ Some (make (x ∷ xs, false), u)
    block_complete x xs text texts u h hs =
        rw (
          entry_assoc (lead f (inside s) Zero) text (trail s.mode) (block_tail f s One texts) u,
          strip_joined (lead f (inside s) Zero) (text ++ (trail s.mode ++ (block_tail f s One texts ++ u))),
        )
        (entries_complete x xs text texts u h hs)

  -- a value is read after its key
  pub read_value_complete : {A : Type 0} (p : Parse Document) (key : A) (value : Document) (text u : List ℕ) → IsRead p value text
      → MayFollow class u → read_value p key (codes ": " ++ (text ++ u)) ≡ Some ((key, value), u)
  read_value_complete p key value text u h follows = rw (h.reads u follows) refl

  -- a key and its value are read
  pub read_pair_complete : {A : Type 0} (key : Parse A) (p : Parse Document) (a : A) (value : Document) (name text : List ℕ)
      → IsRead key a name → IsRead p value text → IsRead (read_pair key p) (a, value) (name ++ (codes ": " ++ text))
  read_pair_complete key p a value name text h hv = record {
    begins = Begins-append h.begins (codes ": " ++ text);
    reads = λ u follows. rw (append_assoc name (codes ": " ++ text) u, h.reads (codes ": " ++ (text ++ u)) (colon_follows class (text ++ u) (Begins-append hv.begins u)))
        (read_value_complete p a value text u hv follows);
  }
