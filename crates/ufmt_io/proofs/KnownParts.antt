-- Known bytes that are read or written part by part.
use Rattle.std.proofs.Common.{◌≡◌, ℕ, ◌+◌, List, ◌++◌, Option, take, drop, sym, ap, subst, ◌∙◌}
use Rattle.std.proofs.Math.Seq.{take-add}
use Rattle.std.proofs.KnownBytes.{Appends-kept, Appends-trans, Consumes-trans}
use Rattle.std.proofs.lemmas.List.{take-append-drop}
use Rattle.std.specs.Io.KnownBytes.{Appends, Consumes, Keeps}
use Rattle.ufmt_io.specs.Whole.{AppendsPrefix}

-- what was read into the front, and then after it, is the longer front
pub consumes_longer_front : (first second third : Option (List ℕ)) (old new : List ℕ) (filled count : ℕ) → take filled new ≡ take filled old
    → Consumes first second (take filled old) → Consumes second third (take count (drop filled new)) → Consumes first third (take (filled + count) new)
consumes_longer_front first second third old new filled count front before read =
    subst (Consumes first third) (ap (λ bytes. bytes ++ take count (drop filled new)) (sym front) ∙ sym (take-add filled count new))
    (Consumes-trans first second third _ _ before read)

-- a prefix that was written, and then a prefix of the rest, are a longer prefix
pub appends_longer_prefix : (first second third : Option (List ℕ)) (bytes : List ℕ) (written count : ℕ)
    → Appends first second (take written bytes) → Appends second third (take count (drop written bytes)) → Appends first third (take (written + count) bytes)
appends_longer_prefix first second third bytes written count before more =
    subst (Appends first third) (sym (take-add written count bytes)) (Appends-trans first second third _ _ before more)

-- what was written before a failure is a prefix
pub appends_prefix : (first second third : Option (List ℕ)) (bytes : List ℕ) (written : ℕ) → Appends first second (take written bytes) → Keeps second third
    → AppendsPrefix first third bytes
appends_prefix first second third bytes written before keeps =
    (take written bytes, drop written bytes, sym (take-append-drop written bytes), Appends-kept first second third _ before keeps)
