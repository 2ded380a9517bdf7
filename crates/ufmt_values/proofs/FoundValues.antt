-- A value that is found at the front of a text.
use Rattle.std.proofs.Common.{◌≡◌, ◌∙◌, refl, ap, sym, ℕ, List, Bool, true, false, Option, Some, None, option_and_then, ◌<◌, length-drop, cond, drop, arith, ◌⊎◌, inl, inr}
use Rattle.ufmt_grammar.proofs.ReadingTurns.{read_takes}
use Rattle.ufmt.specs.Document.{Document}
use Rattle.ufmt.specs.Layout.{setting}
use Rattle.ufmt_grammar.specs.declared.class.Class.{Class}
use Rattle.ufmt_grammar.specs.declared.class.Class.TheVariants.{Debug}
use Rattle.ufmt_core.specs.declared.layout.Mode.{Mode}
use Rattle.ufmt_core.specs.declared.layout.Mode.TheVariants.{Plain}
use Rattle.ufmt_values.specs.FoundValues.{IsFoundValue}
use Rattle.ufmt_values.specs.Private.FieldsLeft.{IsFoundIn}
use Rattle.ufmt_values.specs.Values.{if_entries, value_from, value_in}
use Rattle.ufmt_scan.specs.Fronts.{IsFront, has_entries, read_front}
use Rattle.ufmt_scan.specs.Texts.{other_mode}
use Rattle.ufmt_scan.specs.declared.text.FrontText.{FrontText}

-- an option that can't have a value has none
pub none_unless : {A : Type 0} (o : Option A) → ((x : A) → o ≡ Some x → ⊥) → o ≡ None
none_unless None never = refl
none_unless (Some x) never = absurd (never x refl)

-- an option has no value, or one
pub cases_option : {A : Type 0} (o : Option A) → (o ≡ None) ⊎ ((x : A) × (o ≡ Some x))
cases_option None = inl refl
cases_option (Some x) = inr (x, refl)

-- a block with entries was read, and has entries
pub block_read : (o : Option (Document × List ℕ)) (d : Document) (rest : List ℕ) → option_and_then if_entries o ≡ Some (d, rest) → o ≡ Some (d, rest)
block_read None d rest h = absurd (cc)
block_read (Some x) d rest h = grind arith

pub block_entries : (o : Option (Document × List ℕ)) (d : Document) (rest : List ℕ) → option_and_then if_entries o ≡ Some (d, rest) → has_entries d ≡ true
block_entries None d rest h = absurd (cc)
block_entries (Some x) d rest h = grind arith

-- what is at the front of a text, of this class and mode
module _ (class : Class) (mode : Mode) (text : List ℕ) (front : FrontText) (is : IsFront class mode text front) where
  -- it has a byte
  takes_some : 0 < front.len
  takes_some =
      let fewer = (read_takes class (setting mode 0) 255).takes text is.document (drop front.len text) is.is_read in
      let left = length-drop front.len text in
      let within = is.within in
      omega (arith, fewer, left, within)

  -- it is a value if it has entries
  value_by : (b : Bool) → front.has_entries ≡ b → value_in class mode text ≡ cond b (Some (is.document, drop front.len text)) None
  value_by b entries = ap (option_and_then if_entries) is.is_read ∙ ap (λ b. cond b (Some (is.document, drop front.len text)) None) (sym is.entries ∙ entries)

-- a value is what was read, if that is a block with entries
module _ (to : Mode) (text : List ℕ) where
  pub no_front : read_front Debug (other_mode to) text ≡ None → value_from to text ≡ None
  no_front none = ap (option_and_then if_entries) none

  module _ (front : FrontText) (is : IsFront Debug (other_mode to) text front) where
    pub value_found : front.has_entries ≡ true → IsFoundValue to text front
    value_found some = record {
      document = is.document;
      some = takes_some Debug (other_mode to) text front is;
      within = is.within;
      is = value_by Debug (other_mode to) text front is true some;
      leaf = is.leaf;
    }

    pub no_entries : front.has_entries ≡ false → value_from to text ≡ None
    no_entries none = value_by Debug (other_mode to) text front is false none

  pub value_read : (d : Document) (rest : List ℕ) → value_from to text ≡ Some (d, rest) → read_front Debug (other_mode to) text ≡ Some (d, rest)
  value_read d rest h = block_read _ d rest h

-- a value has entries
module _ (to : Mode) (text : List ℕ) (d : Document) (rest : List ℕ) where
  pub value_entries : value_from to text ≡ Some (d, rest) → has_entries d ≡ true
  value_entries h = block_entries (read_front Debug (other_mode to) text) d rest h

  -- and what is read with entries is a value
  pub front_value : read_front Debug (other_mode to) text ≡ Some (d, rest) → has_entries d ≡ true → value_from to text ≡ Some (d, rest)
  front_value read entries = ap (option_and_then if_entries) read ∙ ap (λ b. cond b (Some (d, rest)) None) entries

-- ---- the same of a plain text of each class

module _ (class : Class) (text : List ℕ) (front : FrontText) (is : IsFront class Plain text front) where
  pub found_in : front.has_entries ≡ true → IsFoundIn class text front
  found_in some = record { document = is.document; some = takes_some class Plain text front is; within = is.within; is = value_by class Plain text front is true some }
