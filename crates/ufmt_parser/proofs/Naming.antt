-- Names that a test finds to be the same, and documents that print as a name alone.
use Rattle.std.proofs.Common.{◌≡◌, refl, sym, ap, ◌∙◌, subst, ℕ, not, Bool, true, false, List, [], ◌∷◌, ◌++◌}
use Rattle.std.specs.Str.{bytes_eq}
use Rattle.std.proofs.lemmas.Bool.{and_parts}
use Rattle.std.proofs.lemmas.List.{append-nil, append_cancel_left}
use Rattle.std.proofs.lemmas.Slice.Eq.{bytes_eq-Decides}
use Rattle.ufmt_core.specs.Document.{Document, leaf, joined, list_of, set_of, map_of, struct_of, non_exhaustive_of, tuple_of, pretty_part, no_documents, first_document, no_fields, first_field, Documents, Fields}
use Rattle.ufmt_core.specs.Layout.{layout}
use Rattle.ufmt_core.specs.declared.layout.Mode.{Mode}
use Rattle.ufmt_core.specs.declared.layout.Setting.{Setting}
use Rattle.ufmt_parser.specs.declared.parser.Parser.{Parser}
use Rattle.ufmt_parser.specs.Naming.{document_name, is_debug_name, is_unit, same_names}
use Rattle.ufmt_parser.specs.Next.{IsNotNext, NextLeaves}
use Rattle.ufmt_parser.specs.Taking.{DoesNotBegin, IsNext, rest}

names_are : (others names : List (List ℕ)) → same_names others names ≡ true → others ≡ names
names_are [] [] same = refl
names_are [] (name ∷ names) same = absurd (cc)
names_are (other ∷ others) [] same = absurd (cc)
names_are (other ∷ others) (name ∷ names) same =
    let parts = and_parts (bytes_eq other name) (same_names others names) same in
    ap (λ o. o ∷ others) ((bytes_eq-Decides other name).0 parts.0) ∙ ap (λ os. name ∷ os) (names_are others names parts.1)

-- names are the same as themselves: for a caller that doesn't know them
pub same_names-refl : (names : List (List ℕ)) → same_names names names ≡ true
same_names-refl [] = refl
same_names-refl (name ∷ names) = rw ((bytes_eq-Decides name name).1 refl) (same_names-refl names)

-- the fields' names, and their values
abbrev pub field_names : Fields → List (List ℕ)
field_names no_fields = []
field_names (first_field name d fs) = name ∷ field_names fs

abbrev pub field_values : Fields → List Document
field_values no_fields = []
field_values (first_field name d fs) = d ∷ field_values fs

-- fields with the same names and the same values are the same
fields_are : (others fs : Fields) → field_names others ≡ field_names fs → field_values others ≡ field_values fs → others ≡ fs
fields_are no_fields no_fields named same = refl
fields_are no_fields (first_field name d fs) named same = absurd (cc)
fields_are (first_field other e es) no_fields named same = absurd (cc)
fields_are (first_field other e es) (first_field name d fs) named same =
    let name_is : other ≡ name = cc named in
    let value_is : e ≡ d = cc same in
    let names : field_names es ≡ field_names fs = cc named in
    let values : field_values es ≡ field_values fs = cc same in
    ap (λ n. first_field n e es) name_is ∙ ap (λ value. first_field name value es) value_is ∙ ap (λ rest. first_field name d rest) (fields_are es fs names values)

-- what is said of a struct is said of one with the same names and the same values
module _ {M : Type 0} (mode : Mode) (old : Parser M) (other name : List ℕ) (others fs : Fields) where
  struct_is : same_names (other ∷ field_names others) (name ∷ field_names fs) ≡ true → field_values others ≡ field_values fs → struct_of other others ≡ struct_of name fs
  struct_is same values =
      let named : other ∷ field_names others ≡ name ∷ field_names fs = names_are (other ∷ field_names others) (name ∷ field_names fs) same in
      let name_is : other ≡ name = cc named in
      let names : field_names others ≡ field_names fs = cc named in
      ap (λ n. struct_of n others) name_is ∙ ap (λ es. struct_of name es) (fields_are others fs names values)

  pub struct_leaves : (new : Parser M) → NextLeaves mode old (struct_of name fs) new → same_names (other ∷ field_names others) (name ∷ field_names fs) ≡ true
      → field_values others ≡ field_values fs → NextLeaves mode old (struct_of other others) new
  struct_leaves new leaves same values = subst (λ d. NextLeaves mode old d new) (sym (struct_is same values)) leaves

  pub no_struct : IsNotNext mode old (struct_of name fs) → same_names (other ∷ field_names others) (name ∷ field_names fs) ≡ true
      → field_values others ≡ field_values fs → IsNotNext mode old (struct_of other others)
  no_struct none same values = subst (λ d. IsNotNext mode old d) (sym (struct_is same values)) none

-- what is said of a tuple is said of one with the same name
module _ {M : Type 0} (mode : Mode) (old : Parser M) (other name : List ℕ) (ds : Documents) where
  pub tuple_leaves : (new : Parser M) → NextLeaves mode old (tuple_of name ds) new → bytes_eq other name ≡ true → NextLeaves mode old (tuple_of other ds) new
  tuple_leaves new leaves same = subst (λ n. NextLeaves mode old (tuple_of n ds) new) (sym ((bytes_eq-Decides other name).0 same)) leaves

  pub no_tuple : IsNotNext mode old (tuple_of name ds) → bytes_eq other name ≡ true → IsNotNext mode old (tuple_of other ds)
  no_tuple none same = subst (λ n. IsNotNext mode old (tuple_of n ds)) (sym ((bytes_eq-Decides other name).0 same)) none

-- ---- documents that print as a name alone

-- a tuple without a name has brackets
pub tuple_alone : (s : Setting) (name : List ℕ) → is_debug_name name ≡ true → layout s (tuple_of name no_documents) ≡ name
tuple_alone s [] named = absurd (cc)
tuple_alone s (c ∷ name) named = append-nil (c ∷ name)

unit_text : (s : Setting) (name : List ℕ) → is_debug_name name ≡ true → (d : Document) → is_unit name d ≡ true → layout s d ≡ name
unit_text s name named (leaf text) is = (bytes_eq-Decides text name).0 is
unit_text s name named (joined ds) is = absurd (cc)
unit_text s name named (list_of ds) is = absurd (cc)
unit_text s name named (set_of ds) is = absurd (cc)
unit_text s name named (map_of ps) is = absurd (cc)
unit_text s name named (struct_of other no_fields) is = append-nil other ∙ (bytes_eq-Decides other name).0 is
unit_text s name named (struct_of other (first_field field value fs)) is = absurd (cc)
unit_text s name named (non_exhaustive_of other fs) is = absurd (cc)
unit_text s name named (tuple_of other no_documents) is = ap (λ n. layout s (tuple_of n no_documents)) ((bytes_eq-Decides other name).0 is) ∙ tuple_alone s name named
unit_text s name named (tuple_of other (first_document d ds)) is = absurd (cc)
unit_text s name named (pretty_part d) is = absurd (cc)

module _ {M : Type 0} (mode : Mode) (old : Parser M) (name : List ℕ) (named : is_debug_name name ≡ true) (d : Document) (is : is_unit name d ≡ true) where
  -- after the name, what is left follows it
  pub unit_leaves : (new : Parser M) → rest old ≡ name ++ rest new → NextLeaves mode old d new
  unfolding NextLeaves
  unit_leaves new taken = λ u next. append_cancel_left name u (rest new) (ap (λ t. t ++ u) (sym (unit_text _ name named d is)) ∙ sym next.2 ∙ taken)

  -- where the name isn't there, the document isn't
  pub no_unit : DoesNotBegin name (rest old) → IsNotNext mode old d
  unfolding IsNotNext
  no_unit none = λ u next. none u (next.2 ∙ ap (λ t. t ++ u) (unit_text _ name named d is))

-- ---- what a test of the next name says

not_itself : (b : Bool) → b ≡ not b → ⊥
not_itself true same = absurd (cc)
not_itself false same = absurd (cc)

-- each document that comes next has the name or hasn't, as was found
module _ {M : Type 0} (mode : Mode) (parser : Parser M) (name : List ℕ) (found : Bool) (says : (d : Document) (u : List ℕ) → IsNext mode parser d u → bytes_eq (document_name d) name ≡ found) where
  pub not_named : (d : Document) → bytes_eq (document_name d) name ≡ not found → IsNotNext mode parser d
  unfolding IsNotNext
  not_named d other = λ u next. not_itself found (sym (says d u next) ∙ other)

  pub not_named_leaves : (d : Document) (new : Parser M) → bytes_eq (document_name d) name ≡ not found → NextLeaves mode parser d new
  unfolding NextLeaves
  not_named_leaves d new other = λ u next. absurd (not_itself found (sym (says d u next) ∙ other))
