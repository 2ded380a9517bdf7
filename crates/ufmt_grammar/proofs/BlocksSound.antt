-- Reading a block in any frame is sound if reading its entries is sound.
use Rattle.std.proofs.Common.{◌≡◌, ◌⊎◌, inl, inr, ap, sym, ◌∙◌, subst, subst₂, ℕ, zero, suc, Bool, true, false, List, [], ◌∷◌, ◌++◌, map, length, Option, Some, None, codes, append_assoc}
use Rattle.std.specs.Prelude.{⊤}
use Rattle.ufmt_core.specs.Document.{Document}
use Rattle.ufmt_core.specs.Layout.{Frame, inside, lead, ending, trail, next, block_tail}
use Rattle.ufmt_core.specs.declared.layout.Mode.{Mode}
use Rattle.ufmt_core.specs.declared.layout.Setting.{Setting}
use Rattle.ufmt_core.specs.declared.layout.Count.{Count}
use Rattle.ufmt_core.specs.declared.layout.Count.TheVariants.{Zero, One}
use Rattle.ufmt_grammar.specs.Reading.{Parse, Dots, Rest, no_dots, with_entry, strip, read_value, read_pair, read_after_entry, read_turn, read_further, read_end, read_rest, read_others, read_after_first, read_entries}
use Rattle.ufmt_grammar.proofs.DottedStructs.{rest_text, rest_text-false}
use Rattle.ufmt_grammar.proofs.Parsing.{same_parts, strip_found, led_from, chosen_from, mapped_from, beside_from}
use Rattle.ufmt_grammar.proofs.BlocksComplete.{entry_assoc}

-- what `q` reads is good, and its text and the rest make up the text that was read
pub record Finds {A : Type 0} (q : Parse A) (Good : A → Type 0) (text : A → List ℕ) : Type 0 where
  pub good : (t : List ℕ) (x : A) (u : List ℕ) → q t ≡ Some (x, u) → Good x
  pub whole : (t : List ℕ) (x : A) (u : List ℕ) → q t ≡ Some (x, u) → t ≡ text x ++ u

abbrev pub AreGood : {A : Type 0} → (A → Type 0) → List A → Type 0
AreGood Good [] = ⊤
AreGood Good (x ∷ xs) = Good x × AreGood Good xs

-- what is stripped as dots is `close`, and only where dots are allowed
pub record StripsOnly (dots : Dots) (close : List ℕ) (Allowed : Type 0) : Type 0 where
  pub allowed : (t u : List ℕ) → dots t ≡ Some u → Allowed
  pub whole : (t u : List ℕ) → dots t ≡ Some u → t ≡ close ++ u

pub strips_no_dots : StripsOnly no_dots [] ⊥
strips_no_dots = record { allowed = λ t u h. absurd (cc); whole = λ t u h. absurd (cc) }

-- a block ends in dots only where they are allowed
abbrev pub MayEnd : Type 0 → Bool → Type 0
MayEnd Allowed false = ⊤
MayEnd Allowed true = Allowed

-- what `read_after_entry` reads is the trail, and then what `more` reads
read_after_entry_sound : {A : Type 0} (mode : Mode) (more : Parse (Rest A)) (x : A) (t : List ℕ) (ys : Rest A) (u : List ℕ)
    → read_after_entry mode more x t ≡ Some (ys, u) → (v : List ℕ) × (left : Rest A) × (t ≡ trail mode ++ v) × (more v ≡ Some (left, u)) × (with_entry x left ≡ ys)
read_after_entry_sound mode more x t ys u h =
    let after = led_from _ (strip (trail mode) t) (ys, u) h in
    let mapped = mapped_from (with_entry x) (more after.0) ys u after.2 in
    (after.0, mapped.0, strip_found (trail mode) t after.0 after.1, mapped.1, mapped.2)

-- what `read_turn` reads is a good entry, its trail, and then what `more` reads
read_turn_sound : {A : Type 0} (q : Parse A) (Good : A → Type 0) (text : A → List ℕ) (mode : Mode) (more : Parse (Rest A))
    → Finds q Good text → (t : List ℕ) (ys : Rest A) (u : List ℕ) → read_turn q mode more t ≡ Some (ys, u) → (x : A) × (v : List ℕ)
    × (left : Rest A) × Good x × (t ≡ text x ++ (trail mode ++ v)) × (more v ≡ Some (left, u)) × (with_entry x left ≡ ys)
read_turn_sound q Good text mode more finds t ys u h =
    let first = led_from _ (q t) (ys, u) h in
    let after = read_after_entry_sound mode more first.0.0 first.0.1 ys u first.2 in (
      first.0.0,
      after.0,
      after.1,
      finds.good t first.0.0 first.0.1 first.1,
      finds.whole t first.0.0 first.0.1 first.1
          ∙ ap (λ w. text first.0.0 ++ w) after.2,
      after.3,
      after.4,
    )

entry_whole : (t v w start text after left u : List ℕ) → t ≡ start ++ v → v ≡ text ++ (after ++ w) → w ≡ left ++ u
    → t ≡ (start ++ (text ++ (after ++ left))) ++ u
entry_whole t v w start text after left u a b c = rw (a, b, c) (sym (entry_assoc start text after left u))

module _ {A : Type 0} (q : Parse A) (Good : A → Type 0) (text : A → List ℕ) (dots : Dots) (close : List ℕ) (Allowed : Type 0) (f : Frame) (s : Setting)
    (finds : Finds q Good text) (strips : StripsOnly dots close Allowed) where
  -- what is left of a block in this text: good entries, and an end that is allowed
  abbrev IsLeft : Count → List ℕ → Rest A → List ℕ → Type 0
  IsLeft count t left u = AreGood Good left.0 × MayEnd Allowed left.1 × (t ≡ rest_text f s close count (map text left.0) left.1 ++ u)

  -- after the lead of an entry, the dots come, or an entry and what is left after it
  further_sound : (count : Count) (more : Parse (Rest A)) (t v : List ℕ) (left : Rest A) (u : List ℕ) → strip (lead f (inside s) count) t ≡ Some v
      → ((w : List ℕ) (after : Rest A) → more w ≡ Some (after, u) → IsLeft (next count) w after u)
      → ((w : List ℕ) × (dots v ≡ Some w) × (◌≡◌ {A = Option (Rest A × List ℕ)} (Some (([], true), w)) (Some (left, u)))) ⊎ ((dots v ≡ None) × (read_turn q s.mode more v ≡ Some (left, u)))
      → IsLeft count t left u
  further_sound count more t v left u led later (inl h) =
      let parts = same_parts {A = Rest A} {B = List ℕ} (([], true), h.0) (left, u) h.2 in
      subst₂ (λ ys w. IsLeft count t ys w) parts.0 parts.1 (
        tt,
        strips.allowed v h.0 h.1,
        strip_found (lead f (inside s) count) t v led ∙ ap (λ w. lead f (inside s) count ++ w) (strips.whole v h.0 h.1)
            ∙ sym (append_assoc (lead f (inside s) count) close h.0),
      )
  further_sound count more t v left u led later (inr h) =
      let found = read_turn_sound q Good text s.mode more finds v left u h.1 in
      let after = later found.1 found.2 found.5 in
      subst (λ ys. IsLeft count t ys u) found.6 (
        (found.3, after.0),
        after.1,
        entry_whole t v found.1 (lead f (inside s) count) (text found.0) (trail s.mode)
            (rest_text f s close (next count) (map text found.2.0) found.2.1) u (strip_found (lead f (inside s) count) t v led) found.4 after.2,
      )

  -- one turn of `read_rest` is sound if the next turns are sound
  read_rest_step : (count : Count) (more : Parse (Rest A)) (t : List ℕ) (left : Rest A) (u : List ℕ)
      → ((w : List ℕ) (after : Rest A) → more w ≡ Some (after, u) → IsLeft (next count) w after u)
      → ((v : List ℕ) × (strip (lead f (inside s) count) t ≡ Some v) × (read_further q dots s.mode more v ≡ Some (left, u)))
      ⊎ ((strip (lead f (inside s) count) t ≡ None) × (read_end f s count t ≡ Some (left, u))) → IsLeft count t left u
  read_rest_step count more t left u later (inl h) =
      further_sound count more t h.0 left u h.1 later (chosen_from (dots h.0) (λ w. Some (([], true), w)) (read_turn q s.mode more h.0) (Some (left, u)) h.2)
  read_rest_step count more t left u later (inr h) =
      let end = beside_from ([], false) (strip (ending f s count) t) left u h.1 in
      subst (λ ys. IsLeft count t ys u) end.1 (tt, tt, strip_found (ending f s count) t u end.0)

  -- what `read_rest` reads is the rest of a block
  read_rest_sound : (n : ℕ) (count : Count) (t : List ℕ) (left : Rest A) (u : List ℕ) → read_rest q dots f s count n t ≡ Some (left, u) → IsLeft count t left u
  unfolding read_rest
  read_rest_sound zero count t left u h = absurd (cc)
  read_rest_sound (suc n) count t left u h =
      read_rest_step count (read_rest q dots f s (next count) n) t left u
      (λ w after e. read_rest_sound n (next count) w after u e)
      (chosen_from (strip (lead f (inside s) count) t) (read_further q dots s.mode (read_rest q dots f s (next count) n)) (read_end f s count t) (Some (left, u)) h)

-- a block that was found after its first entry `x`: its other entries, whether it ends in dots, and the document that was made
pub record FoundAfter {A : Type 0} (Good : A → Type 0) (text : A → List ℕ) (close : List ℕ) (Allowed : Type 0) (f : Frame) (s : Setting) (make : Rest A → Document) (x : A)
    (t : List ℕ) (d : Document) (u : List ℕ) : Type 0 where
  pub others : List A
  pub in_dots : Bool
  pub made : make (x ∷ others, in_dots) ≡ d
  pub good : AreGood Good others
  pub may : MayEnd Allowed in_dots
  pub whole : t ≡ trail s.mode ++ (rest_text f s close One (map text others) in_dots ++ u)

-- what `read_after_first` reads is the rest of a block after its first entry
pub read_after_first_sound : {A : Type 0} (q : Parse A) (Good : A → Type 0) (text : A → List ℕ) (dots : Dots) (close : List ℕ) (Allowed : Type 0) (f : Frame) (s : Setting)
    (make : Rest A → Document) → Finds q Good text → StripsOnly dots close Allowed → (x : A) (t : List ℕ) (d : Document) (u : List ℕ)
    → read_after_first q dots f s make x t ≡ Some (d, u) → FoundAfter Good text close Allowed f s make x t d u
read_after_first_sound q Good text dots close Allowed f s make finds strips x t d u h =
    let mapped = mapped_from make (read_after_entry s.mode (read_others q dots f s One) x t) d u h in
    let after = read_after_entry_sound s.mode (read_others q dots f s One) x t mapped.0 u mapped.1 in
    let left = read_rest_sound q Good text dots close Allowed f s finds strips (suc (length after.0)) One after.0 after.1 u after.3 in
    record {
      others = after.1.0;
      in_dots = after.1.1;
      made = ap make after.4 ∙ mapped.2;
      good = left.0;
      may = left.1;
      whole = after.2 ∙ ap (λ w. trail s.mode ++ w) left.2;
    }

-- a block that was found from its first entry on
pub record FoundEntries {A : Type 0} (Good : A → Type 0) (text : A → List ℕ) (close : List ℕ) (Allowed : Type 0) (f : Frame) (s : Setting) (make : Rest A → Document)
    (t : List ℕ) (d : Document) (u : List ℕ) : Type 0 where
  pub first : A
  pub others : List A
  pub in_dots : Bool
  pub made : make (first ∷ others, in_dots) ≡ d
  pub good : AreGood Good (first ∷ others)
  pub may : MayEnd Allowed in_dots
  pub whole : lead f (inside s) Zero ++ t ≡ rest_text f s close Zero (map text (first ∷ others)) in_dots ++ u

-- a block where dots are not allowed
abbrev pub FoundPlain : {A : Type 0} → (A → Type 0) → (A → List ℕ) → Frame → Setting → (Rest A → Document) → List ℕ → Document → List ℕ → Type 0
FoundPlain Good text f s make t d u = FoundEntries Good text [] ⊥ f s make t d u

pub plain_whole : {A : Type 0} {Good : A → Type 0} {text : A → List ℕ} {f : Frame} {s : Setting} {make : Rest A → Document} {t : List ℕ} {d : Document} {u : List ℕ}
    → (h : FoundPlain Good text f s make t d u) → lead f (inside s) Zero ++ t ≡ block_tail f s Zero (map text (h.first ∷ h.others)) ++ u
plain_whole {text = text} {f = f} {s = s} {t = t} {u = u} h = (elim h.in_dots as (λ b. MayEnd ⊥ b → lead f (inside s) Zero ++ t ≡ rest_text f s [] Zero (map text (h.first ∷ h.others)) b ++ u
    → lead f (inside s) Zero ++ t ≡ block_tail f s Zero (map text (h.first ∷ h.others)) ++ u) [
      | false ↦ λ may whole. whole ∙ ap (λ w. w ++ u) (rest_text-false f s [] Zero (map text (h.first ∷ h.others)))
      | true ↦ λ may whole. absurd may
    ]) h.may h.whole

first_whole : (start t v text after left u : List ℕ) → t ≡ text ++ v → v ≡ after ++ (left ++ u) → start ++ t ≡ (start ++ (text ++ (after ++ left))) ++ u
first_whole start t v text after left u a b = rw (a, b) (sym (entry_assoc start text after left u))

-- a good entry, and a block that was found after it, are a block that was found from that entry on
pub with_first : {A : Type 0} {Good : A → Type 0} {text : A → List ℕ} {close : List ℕ} {Allowed : Type 0} {f : Frame} {s : Setting} {make : Rest A → Document} (x : A)
    (t v : List ℕ) {d : Document} {u : List ℕ} → Good x → t ≡ text x ++ v → FoundAfter Good text close Allowed f s make x v d u
    → FoundEntries Good text close Allowed f s make t d u
with_first {text = text} {close = close} {f = f} {s = s} x t v {u = u} good whole h = record {
  first = x;
  others = h.others;
  in_dots = h.in_dots;
  made = h.made;
  good = (good, h.good);
  may = h.may;
  whole = first_whole (lead f (inside s) Zero) t v (text x) (trail s.mode) (rest_text f s close One (map text h.others) h.in_dots) u whole h.whole;
}

-- what `read_entries` reads is a block from its first entry on
pub read_entries_sound : {A : Type 0} (q : Parse A) (Good : A → Type 0) (text : A → List ℕ) (dots : Dots) (close : List ℕ) (Allowed : Type 0) (f : Frame) (s : Setting)
    (make : Rest A → Document) → Finds q Good text → StripsOnly dots close Allowed → (t : List ℕ) (d : Document) (u : List ℕ) → read_entries q dots f s make t ≡ Some (d, u)
    → FoundEntries Good text close Allowed f s make t d u
read_entries_sound q Good text dots close Allowed f s make finds strips t d u h =
    let first = led_from _ (q t) (d, u) h in
    with_first first.0.0 t first.0.1 (finds.good t first.0.0 first.0.1 first.1) (finds.whole t first.0.0 first.0.1 first.1)
    (read_after_first_sound q Good text dots close Allowed f s make finds strips first.0.0 first.0.1 d u first.2)

-- what `read_value` reads is a colon, a space and a good value
pub read_value_sound : {A : Type 0} (p : Parse Document) (Good : Document → Type 0) (text : Document → List ℕ) → Finds p Good text
    → (key : A) (t : List ℕ) (x : A × Document) (u : List ℕ) → read_value p key t ≡ Some (x, u) → (value : Document) × ((key, value) ≡ x)
    × Good value × (t ≡ codes ": " ++ (text value ++ u))
read_value_sound {A} p Good text finds key t x u h =
    let after = led_from _ (strip (codes ": ") t) (x, u) h in
    let mapped = mapped_from _ (p after.0) x u after.2 in (
      mapped.0,
      mapped.2,
      finds.good after.0 mapped.0 u mapped.1,
      strip_found (codes ": ") t after.0 after.1
          ∙ ap (λ w. codes ": " ++ w) (finds.whole after.0 mapped.0 u mapped.1),
    )

-- a good key and a good value
abbrev pub IsGoodPair : {A : Type 0} → (A → Type 0) → (Document → Type 0) → A × Document → Type 0
IsGoodPair GoodKey Good x = GoodKey x.0 × Good x.1

-- the text of a key and a value
abbrev pub keyed_text : {A : Type 0} → (A → List ℕ) → (Document → List ℕ) → A × Document → List ℕ
keyed_text key_text text x = key_text x.0 ++ (codes ": " ++ text x.1)

-- what `read_pair` reads is a good key and a good value
read_pair_sound : {A : Type 0} (key : Parse A) (p : Parse Document) (GoodKey : A → Type 0) (Good : Document → Type 0)
    (key_text : A → List ℕ) (text : Document → List ℕ) → Finds key GoodKey key_text → Finds p Good text
    → (t : List ℕ) (x : A × Document) (u : List ℕ) → read_pair key p t ≡ Some (x, u) → IsGoodPair GoodKey Good x × (t ≡ keyed_text key_text text x ++ u)
read_pair_sound key p GoodKey Good key_text text finds_key finds t x u h =
    let first = led_from _ (key t) (x, u) h in
    let second = read_value_sound p Good text finds first.0.0 first.0.1 x u first.2 in
    subst (λ y. IsGoodPair GoodKey Good y × (t ≡ keyed_text key_text text y ++ u)) second.1 (
      (finds_key.good t first.0.0 first.0.1 first.1, second.2),
      finds_key.whole t first.0.0 first.0.1 first.1 ∙ ap (λ w. key_text first.0.0 ++ w) second.3
          ∙ sym (append_assoc (key_text first.0.0) (codes ": " ++ text second.0) u),
    )

pub read_pair_finds : {A : Type 0} (key : Parse A) (p : Parse Document) (GoodKey : A → Type 0) (Good : Document → Type 0)
    (key_text : A → List ℕ) (text : Document → List ℕ) → Finds key GoodKey key_text → Finds p Good text
    → Finds (read_pair key p) (IsGoodPair GoodKey Good) (keyed_text key_text text)
read_pair_finds key p GoodKey Good key_text text finds_key finds = record {
  good = λ t x u h. (read_pair_sound key p GoodKey Good key_text text finds_key finds t x u h).0;
  whole = λ t x u h. (read_pair_sound key p GoodKey Good key_text text finds_key finds t x u h).1;
}
