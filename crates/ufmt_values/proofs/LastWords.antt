-- The last word of a front: the bytes of a name that the front ends with. A value with a name that comes after the front begins at this word, any other value at its bracket.
use Rattle.std.proofs.Common.{◌≡◌, ◌⊎◌, inl, inr, ◌∙◌, refl, ap, sym, ℕ, suc, ◌+◌, ◌-◌, ◌<◌, ◌==◌, ◌&&◌, true, false, cond, List, [], ◌∷◌, ◌++◌, append_assoc, append-nil, drop, length, length-append, get_or, arith}
use Rattle.std.proofs.Math.Seq.{drop-append-add, drop-append_seam, get_or-append_seam}
use Rattle.std.proofs.lemmas.Bool.Decides.{nat_tests}
use Rattle.std.proofs.lemmas.Bool.{and_right, cases_Bool, cond_both}
use Rattle.std.proofs.lemmas.List.{get_or-append-add}
use Rattle.std.specs.Prelude.{nat_le, nat_lt}
use Rattle.ufmt.specs.Leaves.{IsDebugWord, begins_with, ends_in_colon, has_name_bytes, is_name_byte}
use Rattle.ufmt_core.specs.declared.layout.Mode.{Mode}
use Rattle.ufmt_core.specs.declared.layout.Mode.TheVariants.{Pretty}
use Rattle.ufmt_grammar.proofs.DebugLeaves.{both}
use Rattle.ufmt_values.specs.Fronts.{last_word}
use Rattle.ufmt_values.specs.Values.{is_after_name, is_named, run_start, value_start}

-- ---- runs of bytes of a name

-- a run that ends after a byte of a name begins where the run before that byte does
pub run_on : (text : List ℕ) (n : ℕ) → is_name_byte (get_or text n 0) ≡ true → run_start text 0 (suc n) ≡ run_start text 0 n
run_on text n named =
    let low : nat_le 0 n ≡ true = grind (arith, nat_tests) in
    ap (λ b. cond (b && is_name_byte (get_or text n 0)) (run_start text 0 n) (suc n)) low ∙ ap (λ b. cond b (run_start text 0 n) (suc n)) named

-- a run that ends after any other byte is empty
pub run_begins : (text : List ℕ) (n : ℕ) → is_name_byte (get_or text n 0) ≡ false → run_start text 0 (suc n) ≡ suc n
run_begins text n other =
    let low : nat_le 0 n ≡ true = grind (arith, nat_tests) in
    ap (λ b. cond (b && is_name_byte (get_or text n 0)) (run_start text 0 n) (suc n)) low ∙ ap (λ b. cond b (run_start text 0 n) (suc n)) other

-- the same for several bytes of a name
run_through : (text front w u : List ℕ) → text ≡ front ++ (w ++ u) → has_name_bytes w ≡ true → run_start text 0 (length front + length w) ≡ run_start text 0 (length front)
run_through text front [] u is named = let none : length front + 0 ≡ length front = omega arith in ap (run_start text 0) none
run_through text front (c ∷ w) u is named =
    let parts = both (is_name_byte c) (has_name_bytes w) named in
    let size : length (front ++ c ∷ []) ≡ suc (length front) = length-append front (c ∷ []) ∙ omega arith in
    let more : length front + suc (length w) ≡ length (front ++ c ∷ []) + length w = omega (arith, size) in
    let byte : get_or text (length front) 0 ≡ c = ap (λ t. get_or t (length front) 0) is ∙ get_or-append_seam front c (w ++ u) 0 in
    ap (run_start text 0) more
    ∙ run_through text (front ++ c ∷ []) w u (is ∙ sym (append_assoc front (c ∷ []) (w ++ u))) parts.1
    ∙ ap (run_start text 0) size ∙ run_on text (length front) (ap is_name_byte byte ∙ parts.0)

-- ---- the last word

-- the front is this word alone, or a byte that no name has comes right before the word
abbrev IsCut : List ℕ → List ℕ → Type 0
IsCut front word = (front ≡ word) ⊎ ((y : List ℕ) × (c : ℕ) × (front ≡ (y ++ c ∷ []) ++ word) × (is_name_byte c ≡ false))

-- each front is cut before its last word
cut_front : (front : List ℕ) → (word : List ℕ) × (has_name_bytes word ≡ true) × IsCut front word
cut_front [] = ([], refl, inl refl)
cut_front (c ∷ front) =
    let rest = cut_front front in
    elim rest.2 [
      | inl whole ↦ elim (cases_Bool (is_name_byte c)) [
        | inl is ↦ (c ∷ rest.0, ap (λ b. b && has_name_bytes rest.0) is ∙ rest.1, inl (ap (λ t. c ∷ t) whole))
        | inr is ↦ (rest.0, rest.1, inr ([], c, ap (λ t. c ∷ t) whole, is))
      ]
      | inr cut ↦ (rest.0, rest.1, inr (c ∷ cut.0, cut.1, ap (λ t. c ∷ t) cut.2, cut.3))
    ]

-- a front and its last word. Whatever follows the front, a run that ends where the front does begins where the word does
pub record LastWord (front : List ℕ) : Type 0 where
  pub before : List ℕ
  pub word : List ℕ
  pub is : front ≡ before ++ word
  pub named : has_name_bytes word ≡ true
  pub starts : (x : List ℕ) → run_start (front ++ x) 0 (length front) ≡ length before

cut_to_word : (front word : List ℕ) → has_name_bytes word ≡ true → IsCut front word → LastWord front
cut_to_word front word named (inl whole) = record {
  before = [];
  word = word;
  is = whole;
  named = named;
  starts = λ x.
      let size : length front ≡ length {A = ℕ} [] + length word = omega (arith, ap length whole) in
      ap (run_start (front ++ x) 0) size ∙ run_through (front ++ x) [] word x (ap (λ t. t ++ x) whole) named;
}
cut_to_word front word named (inr (y, c, is, other)) =
    let before = y ++ c ∷ [] in
    let size : length before ≡ suc (length y) = length-append y (c ∷ []) ∙ omega arith in
    record {
      before = y ++ c ∷ [];
      word = word;
      is = is;
      named = named;
      starts = λ x.
          let whole : front ++ x ≡ before ++ (word ++ x) = ap (λ t. t ++ x) is ∙ append_assoc before word x in
          let byte : get_or (front ++ x) (length y) 0 ≡ c = ap (λ t. get_or t (length y) 0) (whole ∙ append_assoc y (c ∷ []) (word ++ x)) ∙ get_or-append_seam y c (word ++ x) 0 in
          ap (run_start (front ++ x) 0) (ap length is ∙ length-append before word)
          ∙ run_through (front ++ x) before word x whole named
          ∙ ap (run_start (front ++ x) 0) size ∙ run_begins (front ++ x) (length y) (ap is_name_byte byte ∙ other) ∙ sym size;
    }

pub last_word_of : (front : List ℕ) → LastWord front
last_word_of front = let found = cut_front front in cut_to_word front found.0 found.1 found.2

-- the word is what `last_word` is defined as
pub last_word_is : (front : List ℕ) (h : LastWord front) → last_word front ≡ h.word
last_word_is front h =
    ap (λ n. drop n front) (ap (λ t. run_start t 0 (length front)) (sym (append-nil front)) ∙ h.starts [])
    ∙ ap (drop (length h.before)) h.is ∙ drop-append_seam h.before h.word

-- ---- where a value begins after a front

-- a name doesn't end in a colon
last_no_colon : (c : ℕ) (w u : List ℕ) → ends_in_colon (c ∷ w) ≡ false → (get_or ((c ∷ w) ++ u) (length w) 0 == 58) ≡ false
last_no_colon c [] u none = none
last_no_colon c (b ∷ w) u none = last_no_colon b w u none

module _ (front : List ℕ) (h : LastWord front) (c : ℕ) (w : List ℕ) (is_word : IsDebugWord (c ∷ w)) (u : List ℕ) where
  abbrev name : List ℕ
  name = c ∷ w

  abbrev text : List ℕ
  text = front ++ (name ++ u)

  -- where the name ends
  abbrev end : ℕ
  end = length front + length name

  from_name : run_start text 0 end ≡ length h.before
  from_name = run_through text front name u refl is_word.bytes ∙ h.starts (name ++ u)

  byte_at : (i : ℕ) → get_or text (length front + i) 0 ≡ get_or (name ++ u) i 0
  byte_at i = get_or-append-add front (name ++ u) i 0

  before_front : length h.before < end
  before_front = let size = ap length h.is ∙ length-append h.before h.word in omega (arith, size)

  -- `is_named` says that a name ends there
  named_there : is_named text (run_start text 0 end) end ≡ true
  named_there =
      let some = before_front in
      let less : nat_lt (length h.before) end ≡ true = grind (arith, nat_tests) in
      let last : end - 1 ≡ length front + length w = omega arith in
      let byte : (get_or text (end - 1) 0 == 58) ≡ false = ap (λ i. get_or text i 0 == 58) last ∙ ap (λ b. b == 58) (byte_at (length w)) ∙ last_no_colon c w u is_word.ends in
      ap (λ n. is_named text n end) from_name ∙ rw (less, byte) refl

-- a tuple with a name begins at the last word of the front, which is then a part of its name
pub tuple_after : (to : Mode) (front : List ℕ) (h : LastWord front) (c : ℕ) (w : List ℕ) → IsDebugWord (c ∷ w) → (u : List ℕ)
    → value_start to (front ++ ((c ∷ w) ++ 40 ∷ u)) 0 (length front + length (c ∷ w)) ≡ length h.before
tuple_after to front h c w is_word u =
    let t = front ++ ((c ∷ w) ++ 40 ∷ u) in
    let end = length front + length (c ∷ w) in
    let byte : get_or t end 0 ≡ 40 = byte_at front h c w is_word (40 ∷ u) (length (c ∷ w)) ∙ get_or-append_seam (c ∷ w) 40 u 0 in
    let named = named_there front h c w is_word (40 ∷ u) in
    rw (byte, named) (from_name front h c w is_word (40 ∷ u))

-- a struct begins there too
pub struct_after : (front : List ℕ) (h : LastWord front) (c : ℕ) (w : List ℕ) → IsDebugWord (c ∷ w) → (u : List ℕ)
    → value_start Pretty (front ++ ((c ∷ w) ++ (32 ∷ 123 ∷ 32 ∷ u))) 0 (length front + length (c ∷ w) + 1) ≡ length h.before
struct_after front h c w is_word u =
    let after = 32 ∷ 123 ∷ 32 ∷ u in
    let t = front ++ ((c ∷ w) ++ after) in
    let end = length front + length (c ∷ w) in
    let brace : get_or t (end + 1) 0 ≡ 123 =
    ap (λ n. get_or t n 0) (omega arith) ∙ byte_at front h c w is_word after (length (c ∷ w) + 1) ∙ get_or-append-add (c ∷ w) after 1 0 in
    let spaced : get_or t end 0 ≡ 32 = byte_at front h c w is_word after (length (c ∷ w)) ∙ get_or-append_seam (c ∷ w) 32 (123 ∷ 32 ∷ u) 0 in
    let back : (end + 1) - 1 ≡ end = omega arith in
    let less : nat_lt 0 (end + 1) ≡ true = grind (arith, nat_tests) in
    let rest : drop ((end + 1) + 1) t ≡ 32 ∷ u =
    ap (λ n. drop n t) (omega arith) ∙ drop-append-add front ((c ∷ w) ++ after) (length (c ∷ w) + 2) ∙ drop-append-add (c ∷ w) after 2 in
    let inside : begins_with 32 (drop ((end + 1) + 1) t) ≡ true = ap (begins_with 32) rest in
    let named = named_there front h c w is_word after in
    rw (brace, less, inside, back, spaced, named) (from_name front h c w is_word after)

-- a list begins at its bracket
pub list_after : (to : Mode) (front u : List ℕ) → value_start to (front ++ 91 ∷ u) 0 (length front) ≡ length front
list_after to front u = rw (get_or-append_seam front 91 u 0) refl

-- a map or a set begins at its bracket too: no space follows the bracket
pub braces_after : (front u : List ℕ) → begins_with 32 u ≡ false → value_start Pretty (front ++ 123 ∷ u) 0 (length front) ≡ length front
braces_after front u none =
    let inside : begins_with 32 (drop (length front + 1) (front ++ 123 ∷ u)) ≡ false = ap (begins_with 32) (drop-append-add front (123 ∷ u) 1) ∙ none in
    rw (get_or-append_seam front 123 u 0, inside, and_right (is_after_name (front ++ 123 ∷ u) 0 (length front)) false refl) refl

-- a tuple without a name begins at its bracket, if no name ends right before it
pub tuple_unnamed : (to : Mode) (front : List ℕ) (h : LastWord front) → h.word ≡ [] → (u : List ℕ) → value_start to (front ++ 40 ∷ u) 0 (length front) ≡ length front
tuple_unnamed to front h none u =
    let size = ap length h.is ∙ length-append h.before h.word in
    let starts = h.starts (40 ∷ u) in
    let same : run_start (front ++ 40 ∷ u) 0 (length front) ≡ length front = omega (arith, size, starts, ap length none) in
    rw (get_or-append_seam front 40 u 0) (cond_both (is_named (front ++ 40 ∷ u) (run_start (front ++ 40 ∷ u) 0 (length front)) (length front)) _ _ (λ n. n ≡ length front) (λ _. same) (λ _. refl))
