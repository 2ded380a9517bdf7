-- How a document is laid out, for each document that is compared with it.
use Rattle.std.proofs.Common.{◌≡◌, refl, sym, ap, ◌∙◌, subst, ℕ, List, Bool, true}
use Rattle.std.specs.Str.{bytes_eq}
use Rattle.std.proofs.lemmas.Slice.Eq.{bytes_eq-Decides}
use Rattle.ufmt_core.specs.Alike.{SameDocuments, SameFields}
use Rattle.ufmt_core.specs.Document.{leaf, struct_of, non_exhaustive_of, tuple_of, Documents, no_documents, first_document, Fields, no_fields, first_field}
use Rattle.ufmt_core.specs.Writes.{Seen}
use Rattle.ufmt_core.specs.Formatter.{Formatter, LaysOut}

-- What passes the test on names, and the equations of entries, is the same.
pub name_is : (other name : List ℕ) → bytes_eq other name ≡ true → other ≡ name
name_is other name same = (bytes_eq-Decides other name).0 same

pub fields_are : (others fs : Fields) → SameFields others fs → others ≡ fs
fields_are no_fields no_fields same = refl
fields_are no_fields (first_field name d fs) same = absurd same
fields_are (first_field other e es) no_fields same = absurd same
fields_are (first_field other e es) (first_field name d fs) same =
    ap (λ n. first_field n e es) (name_is other name same.0) ∙ ap (λ value. first_field name value es) same.1.0
    ∙ ap (λ rest. first_field name d rest) (fields_are es fs same.1.1)

pub documents_are : (others ds : Documents) → SameDocuments others ds → others ≡ ds
documents_are no_documents no_documents same = refl
documents_are no_documents (first_document d ds) same = absurd same
documents_are (first_document e es) no_documents same = absurd same
documents_are (first_document e es) (first_document d ds) same =
    ap (λ value. first_document value es) same.0 ∙ ap (λ rest. first_document d rest) (documents_are es ds same.1)

module _ {W : Type 0} {seen : Seen W} {old new : Formatter W} {ok : Bool} {name : List ℕ} where
  pub leaf_alike : LaysOut seen old (leaf name) ok new → (other : List ℕ) → bytes_eq other name ≡ true
      → LaysOut seen old (leaf other) ok new
  leaf_alike l other named = subst (λ n. LaysOut seen old (leaf n) ok new) (sym (name_is other name named)) l

  pub struct_alike : {fs : Fields} → LaysOut seen old (struct_of name fs) ok new → (other : List ℕ) (others : Fields)
      → bytes_eq other name ≡ true → SameFields others fs → LaysOut seen old (struct_of other others) ok new
  struct_alike {fs} l other others named same =
      subst (λ n. LaysOut seen old (struct_of n others) ok new) (sym (name_is other name named))
      (subst (λ es. LaysOut seen old (struct_of name es) ok new) (sym (fields_are others fs same)) l)

  pub non_exhaustive_alike : {fs : Fields} → LaysOut seen old (non_exhaustive_of name fs) ok new → (other : List ℕ) (others : Fields)
      → bytes_eq other name ≡ true → SameFields others fs → LaysOut seen old (non_exhaustive_of other others) ok new
  non_exhaustive_alike {fs} l other others named same =
      subst (λ n. LaysOut seen old (non_exhaustive_of n others) ok new) (sym (name_is other name named))
      (subst (λ es. LaysOut seen old (non_exhaustive_of name es) ok new) (sym (fields_are others fs same)) l)

  pub tuple_alike : {ds : Documents} → LaysOut seen old (tuple_of name ds) ok new → (other : List ℕ) (others : Documents)
      → bytes_eq other name ≡ true → SameDocuments others ds → LaysOut seen old (tuple_of other others) ok new
  tuple_alike {ds} l other others named same =
      subst (λ n. LaysOut seen old (tuple_of n others) ok new) (sym (name_is other name named))
      (subst (λ es. LaysOut seen old (tuple_of name es) ok new) (sym (documents_are others ds same)) l)
