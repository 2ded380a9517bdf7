-- A dump's rows are all of its bytes, and the digits of a row have a width that is known from its length.
use Rattle.std.proofs.Common.{◌≡◌, ◌∙◌, refl, ap, ℕ, zero, suc, ◌+◌, ◌-◌, ◌*◌, ◌/◌, ◌<◌, ◌≤◌, List, [], ◌∷◌, ◌++◌, length, take, drop, arith, length-drop, length-take}
use Rattle.std.specs.List.{All, concat, slice_index_or}
use Rattle.std.proofs.Math.Nat.{add-div_right, div-eq_of_lt}
use Rattle.std.proofs.lemmas.List.{take-append-drop}
use Rattle.std.proofs.lemmas.List.Elements.{All-cons, All-nil}
use Rattle.ufmt.specs.Dump.{AreRowsOf, chunks, digits_column, digits_width, first_chunks}
use Rattle.ufmt.proofs.Dumps.{digits_from, digits_from-row}

joined : (count n : ℕ) (bytes : List ℕ) → 0 < n → length bytes ≤ count → concat (first_chunks count n bytes) ≡ bytes
joined zero n [] some within = refl
joined zero n (byte ∷ bytes) some within = absurd (omega arith)
joined (suc count) n [] some within = refl
joined (suc count) n (byte ∷ bytes) some within =
    let left = length-drop n (byte ∷ bytes) in
    ap (λ rest. take n (byte ∷ bytes) ++ rest) (joined count n (drop n (byte ∷ bytes)) some (omega arith)) ∙ take-append-drop n (byte ∷ bytes)

-- where there is a chunk, there is a byte
chunk_has_bytes : (count n : ℕ) (bytes : List ℕ) → 0 < length (first_chunks count n bytes) → 0 < length bytes
chunk_has_bytes zero n bytes some = absurd (omega arith)
chunk_has_bytes (suc count) n [] some = absurd (omega arith)
chunk_has_bytes (suc count) n (byte ∷ bytes) some = omega arith

full : (count n : ℕ) (bytes : List ℕ) (k : ℕ) → k + 1 < length (first_chunks count n bytes) → length (slice_index_or (first_chunks count n bytes) k []) ≡ n
full zero n bytes k within = absurd (omega arith)
full (suc count) n [] k within = absurd (omega arith)
full (suc count) n (byte ∷ bytes) zero within =
    let more = chunk_has_bytes count n (drop n (byte ∷ bytes)) (omega arith) in
    omega (arith, more, length-drop n (byte ∷ bytes), length-take n (byte ∷ bytes))
full (suc count) n (byte ∷ bytes) (suc k) within = full count n (drop n (byte ∷ bytes)) k (omega arith)

some_bytes : (count n : ℕ) (bytes : List ℕ) → 0 < n → All (λ row. 0 < length row) (first_chunks count n bytes)
some_bytes zero n bytes some = All-nil (λ (row : List ℕ). 0 < length row)
some_bytes (suc count) n [] some = All-nil (λ (row : List ℕ). 0 < length row)
some_bytes (suc count) n (byte ∷ bytes) some = All-cons (λ (row : List ℕ). 0 < length row) (take n (byte ∷ bytes)) (first_chunks count n (drop n (byte ∷ bytes)))
    (omega (arith, length-take n (byte ∷ bytes))) (some_bytes count n (drop n (byte ∷ bytes)) some)

at_most : (count n : ℕ) (bytes : List ℕ) → All (λ row. length row ≤ n) (first_chunks count n bytes)
at_most zero n bytes = All-nil (λ (row : List ℕ). length row ≤ n)
at_most (suc count) n [] = All-nil (λ (row : List ℕ). length row ≤ n)
at_most (suc count) n (byte ∷ bytes) = All-cons (λ (row : List ℕ). length row ≤ n) (take n (byte ∷ bytes)) (first_chunks count n (drop n (byte ∷ bytes)))
    (omega (arith, length-take n (byte ∷ bytes))) (at_most count n (drop n (byte ∷ bytes)))

-- chunks are rows of all the bytes
pub AreRowsOf-chunks : (n : ℕ) (bytes : List ℕ) → 0 < n → AreRowsOf n bytes (chunks n bytes)
AreRowsOf-chunks n bytes some = record {
  joined = joined (length bytes) n bytes some (omega arith);
  full = full (length bytes) n bytes;
  some = some_bytes (length bytes) n bytes some;
  within = at_most (length bytes) n bytes;
}

-- digits in groups are two for each byte, and a space before each group but the one that was begun
length-digits_from : (group left : ℕ) (row : List ℕ) → 0 < group → left ≤ group → length (digits_from group left row) ≡ 2 * length row + (length row + group - 1 - left) / group
unfolding digits_from
length-digits_from group zero [] some within = omega (arith, div-eq_of_lt {n = 0 + group - 1 - 0} {m = group} (omega arith))
length-digits_from group (suc left) [] some within = omega (arith, div-eq_of_lt {n = 0 + group - 1 - suc left} {m = group} (omega arith))
length-digits_from group zero (byte ∷ row) some within =
    let rest = length-digits_from group (group - 1) row some (omega arith) in
    let before : length row + group - 1 - (group - 1) ≡ length row = omega arith in
    let after : suc (length row) + group - 1 - 0 ≡ length row + group = omega arith in
    omega (arith, rest, ap (λ n. n / group) before, ap (λ n. n / group) after, add-div_right (length row) {k = group} some)
length-digits_from group (suc left) (byte ∷ row) some within =
    let rest = length-digits_from group left row some (omega arith) in
    let same : suc (length row) + group - 1 - suc left ≡ length row + group - 1 - left = omega arith in
    omega (arith, rest, ap (λ n. n / group) same)

-- the digits of a row have their width
pub length-digits_column : (group : ℕ) (row : List ℕ) → 0 < group → length (digits_column group row) ≡ digits_width group (length row)
length-digits_column group row some =
    ap length (digits_from-row group row some) ∙ length-digits_from group group row some (omega arith)
    ∙ ap (λ n. 2 * length row + n / group) (omega arith)
