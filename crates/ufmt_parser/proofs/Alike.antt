-- That a document doesn't come next, for each document that is compared with it.
use Rattle.std.proofs.Common.{◌≡◌, sym, subst, ℕ, List, true}
use Rattle.std.specs.Str.{bytes_eq}
use Rattle.ufmt_core.proofs.Alike.{name_is, fields_are, documents_are}
use Rattle.ufmt_core.specs.Alike.{SameDocuments, SameFields}
use Rattle.ufmt_core.specs.Document.{struct_of, tuple_of, Documents, Fields}
use Rattle.ufmt_core.specs.declared.layout.Mode.{Mode}
use Rattle.ufmt_parser.specs.declared.parser.Parser.{Parser}
use Rattle.ufmt_parser.specs.Next.{IsNotNext}

module _ {M : Type 0} (mode : Mode) (old : Parser M) (name : List ℕ) where
  pub no_struct_alike : (fs : Fields) → IsNotNext mode old (struct_of name fs) → (other : List ℕ) (others : Fields)
      → bytes_eq other name ≡ true → SameFields others fs → IsNotNext mode old (struct_of other others)
  no_struct_alike fs none other others named same =
      subst (λ n. IsNotNext mode old (struct_of n others)) (sym (name_is other name named))
      (subst (λ es. IsNotNext mode old (struct_of name es)) (sym (fields_are others fs same)) none)

  pub no_tuple_alike : (ds : Documents) → IsNotNext mode old (tuple_of name ds) → (other : List ℕ) (others : Documents)
      → bytes_eq other name ≡ true → SameDocuments others ds → IsNotNext mode old (tuple_of other others)
  no_tuple_alike ds none other others named same =
      subst (λ n. IsNotNext mode old (tuple_of n others)) (sym (name_is other name named))
      (subst (λ es. IsNotNext mode old (tuple_of name es)) (sym (documents_are others ds same)) none)
