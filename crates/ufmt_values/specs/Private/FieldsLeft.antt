-- What is left of a struct's plain text from one of its fields on, and where a leaf is in a text.
use Rattle.std.specs.Prelude.{◌≡◌, ◌⊎◌, ◌<◌, ◌≤◌, ℕ, suc, Bool, true, false, List, if◌then◌else◌, ◌++◌, bytes_eq, codes, drop, length, Option, Some, None, MatchOption, option_map, ⊤}
use Rattle.std.specs.Borrow.{Bor}
use Rattle.ufmt.specs.Document.{Document, struct_of, non_exhaustive_of, Fields, no_fields, first_field, nest}
use Rattle.ufmt.specs.Layout.{plain_text}
use Rattle.ufmt.specs.Token.{IsBuilt, IsName, normal}
use Rattle.ufmt_core.specs.declared.layout.Mode.TheVariants.{Plain, Pretty}
use Rattle.ufmt_grammar.specs.declared.class.Class.{Class}
use Rattle.ufmt_scan.specs.declared.text.FrontText.{FrontText}
use Rattle.ufmt_values.specs.declared.field.Look.{Look}
use Rattle.ufmt_values.specs.declared.field.Look.TheVariants as look
use Rattle.ufmt_values.specs.Fields.{IsPlaced, field_from, leaf_text}
use Rattle.ufmt_values.specs.FoundValues.{IsStart}
use Rattle.ufmt_values.specs.Values.{value_in, value_start}

-- a document of the class in normal form
abbrev pub IsGood : Class → Document → Type 0
IsGood class d = IsBuilt class d × (nest d ≤ 255) × (normal d ≡ d)

abbrev pub AreGood : Class → Fields → Type 0
AreGood class no_fields = ⊤
AreGood class (first_field name value fs) = IsName class name × IsGood class value × AreGood class fs

-- what follows a field's value: further fields, and the end of the struct, which may be dots
abbrev pub after_field : Fields → Bool → List ℕ → List ℕ
after_field no_fields false rest = codes " }" ++ rest
after_field no_fields true rest = codes ", .. }" ++ rest
after_field (first_field name value fs) dots rest = codes ", " ++ (name ++ (codes ": " ++ (plain_text value ++ after_field fs dots rest)))

-- a leaf's text, and what follows it
abbrev pub LeafAndRest : Type 0
LeafAndRest = List ℕ × List ℕ

-- the leaf of the first of these fields with this name
abbrev pub leaf_among : List ℕ → Fields → Bool → List ℕ → Option LeafAndRest
leaf_among name no_fields dots rest = None
leaf_among name (first_field other value fs) dots rest =
    if bytes_eq other name then option_map (λ text. (text, after_field fs dots rest)) (leaf_text value) else leaf_among name fs dots rest

-- the same of a struct
abbrev pub leaf_in : List ℕ → Document → List ℕ → Option LeafAndRest
leaf_in name (struct_of its_name fs) rest = leaf_among name fs false rest
leaf_in name (non_exhaustive_of its_name fs) rest = leaf_among name fs true rest
leaf_in name _ rest = None

-- a field begins here, and the leaf with the name is this one, if it is there
pub record FieldComes (class : Class) (name text : List ℕ) (answer : Option LeafAndRest) : Type 0 where
  pub field : List ℕ
  pub value : Document
  pub others : Fields
  pub dots : Bool
  pub rest : List ℕ
  pub good : AreGood class (first_field field value others)
  pub is : text ≡ field ++ (codes ": " ++ (plain_text value ++ after_field others dots rest))
  pub answers : answer ≡ leaf_among name (first_field field value others) dots rest

-- only dots are left, and the leaf isn't there
pub record DotsCome (text : List ℕ) (answer : Option LeafAndRest) : Type 0 where
  pub rest : List ℕ
  pub is : text ≡ codes ".. }" ++ rest
  pub answers : answer ≡ None

abbrev pub Comes : Class → List ℕ → List ℕ → Option LeafAndRest → Type 0
Comes class name text answer = FieldComes class name text answer ⊎ DotsCome text answer

-- both texts, as bytes
abbrev pub both_of : Option (Bor (List ℕ) × Bor (List ℕ)) → Option LeafAndRest
both_of o = option_map (λ x. (x.0.now, x.1.now)) o

-- a value of the class, which ends there
pub record IsFoundIn (class : Class) (text : List ℕ) (value : FrontText) : Type 0 where
  pub document : Document
  pub some : 0 < value.len
  pub within : value.len ≤ length text
  pub is : value_in class Plain text ≡ Some (document, drop value.len text)

-- where the value with this bracket begins, and the value, or there is none
abbrev pub IsFoundAt : Class → List ℕ → ℕ → ℕ → Option (ℕ × FrontText) → Type 0
IsFoundAt class line low bracket outcome = MatchOption outcome (value_in class Plain (drop (value_start Pretty line low bracket) line) ≡ None)
    (λ x. IsStart Pretty line low bracket x.0 × IsFoundIn class (drop x.0 line) x.1)

-- a bracket was looked at: the field was found, or the rest has it if the line has
abbrev pub Looks : Class → List ℕ → List ℕ → ℕ → Look → Type 0
Looks class line name at (look.Found field) = IsPlaced line field.start field.text.now × ((n : ℕ) → field_from class name (suc n) line at ≡ Some (field.start, field.text.now))
Looks class line name at (look.Next place) = (at < place) × (place ≤ length line) × ((n : ℕ) → field_from class name (suc n) line at ≡ field_from class name n line place)
