-- The documents of values, written with names in quotes and with lists.
use Prim.Native.String.{String as Text}
use Rattle.std.specs.Prelude.{ℕ, ℤ, pos, List, [], ◌∷◌, true, codes, map, Option, Some, None, Result, Ok, Err, String, string_bytes, Vec, Box}
use Rattle.std.specs.BTreeMap.{BTreeMap}
use Rattle.std.specs.BTreeSet.{BTreeSet}
use lib.Ieee.{Float, binary32, binary64}
use Rattle.std.specs.Borrow.{Bor}
use Rattle.std.specs.Str.{chars}
use Rattle.ufmt_core.specs.Document.{Document, leaf, struct_of, non_exhaustive_of, tuple_of, list_of, set_of, map_of, pairs_of, documents, Fields, no_fields, first_field}
use Rattle.ufmt_core.specs.Decimal.{decimal}
use Rattle.ufmt_core.specs.FloatText.{float_text}
use Rattle.ufmt_core.specs.Quoted.{quoted_char, quoted_text}

-- fields in a row, each a name and a document
abbrev pub named_fields : List (Text × Document) → Fields
named_fields [] = no_fields
named_fields (f ∷ fs) = first_field (codes f.0) f.1 (named_fields fs)

-- a struct, or a variant with named fields
abbrev pub named_struct : Text → List (Text × Document) → Document
named_struct name fs = struct_of (codes name) (named_fields fs)

-- such a struct of which not all fields are shown: it ends in `..`
abbrev pub non_exhaustive_struct : Text → List (Text × Document) → Document
non_exhaustive_struct name fs = non_exhaustive_of (codes name) (named_fields fs)

-- a tuple struct, or a variant with fields in parentheses
abbrev pub named_tuple : Text → List Document → Document
named_tuple name ds = tuple_of (codes name) (documents ds)

-- a variant without fields
abbrev pub named : Text → Document
named name = leaf (codes name)

-- a whole number
abbrev pub number : ℕ → Document
number n = leaf (decimal (pos n))

abbrev pub integer : ℤ → Document
integer z = leaf (decimal z)

-- an `f32` and an `f64`
abbrev pub float32 : Float → Document
float32 x = leaf (float_text binary32 true x)

abbrev pub float64 : Float → Document
float64 x = leaf (float_text binary64 true x)

-- a `String`, in quotation marks
abbrev pub string : {A : Type 0} → String A → Document
string s = leaf (quoted_text (chars (string_bytes s)))

-- a `&str`, in quotation marks
abbrev pub str : Bor (List ℕ) → Document
str s = leaf (quoted_text (chars s.now))

-- a character, in apostrophes
abbrev pub character : ℕ → Document
character c = leaf (quoted_char c)

abbrev pub option_document : {T : Type 0} → (T → Document) → Option T → Document
option_document f None = named "None"
option_document f (Some x) = named_tuple "Some" (f x ∷ [])

abbrev pub result_document : {T E : Type 0} → (T → Document) → (E → Document) → Result T E → Document
result_document f g (Ok x) = named_tuple "Ok" (f x ∷ [])
result_document f g (Err e) = named_tuple "Err" (g e ∷ [])

-- the value in a box
abbrev pub box_document : {T A : Type 0} → (T → Document) → Box T A → Document
box_document f b = f b.value

-- the items of a vector, as a list
abbrev pub vec_document : {T A : Type 0} → (T → Document) → Vec T A → Document
vec_document f v = list_of (documents (map f v.items))

-- the items of a sorted set
abbrev pub sorted_set_document : {T : Type 0} → (T → Document) → BTreeSet T → Document
sorted_set_document f s = set_of (documents (map f s.keys))

-- the entries of a sorted map
abbrev pub sorted_map_document : {K V : Type 0} → (K → Document) → (V → Document) → BTreeMap K V → Document
sorted_map_document f g m = map_of (pairs_of (map (λ e. (f e.0, g e.1)) m.entries))
