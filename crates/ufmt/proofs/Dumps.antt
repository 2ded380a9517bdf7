-- Dumps: how bytes are cut into chunks, and the digits of a row one byte after the other.
use Rattle.std.proofs.Common.{false, get_or, replicate, ◌/◌, ◌≡◌, ◌∙◌, refl, ap, sym, ℕ, zero, suc, min, ◌+◌, ◌-◌, ◌==◌, if◌then◌else◌, ◌<◌, ◌≤◌, List, [], ◌∷◌, ◌++◌, length, take, drop, arith, length-drop, append-nil, append_assoc}
use Rattle.std.proofs.Math.Nat.{div-mul-le_self}
use Rattle.std.proofs.lemmas.Nat.{le-div}
use Rattle.std.proofs.Math.Seq.{drop-append_seam, take-append_seam}
use Rattle.std.proofs.lemmas.Bool.Decides.{nat_tests}
use Rattle.std.proofs.lemmas.List.{drop_min, drop_more, replicate-append-replicate, take_min}
use Rattle.std.specs.List.{flat_map}
use Rattle.ufmt_core.specs.Bytes.{space}
use Rattle.ufmt.specs.declared.dump.HexDump.{HexDump}
use Rattle.ufmt.specs.Dump.{byte_digits, bytes_per_group, bytes_per_row, chunks, digits_column, digits_width, first_chunks}

-- more chunks than there are bytes are the same chunks
first_chunks-enough : (j k n : ℕ) (bytes : List ℕ) → 0 < n → length bytes ≤ j → length bytes ≤ k → first_chunks j n bytes ≡ first_chunks k n bytes
first_chunks-enough zero zero n bytes some within_j within_k = refl
first_chunks-enough zero (suc k) n [] some within_j within_k = refl
first_chunks-enough zero (suc k) n (byte ∷ bytes) some within_j within_k = absurd (omega arith)
first_chunks-enough (suc j) zero n [] some within_j within_k = refl
first_chunks-enough (suc j) zero n (byte ∷ bytes) some within_j within_k = absurd (omega arith)
first_chunks-enough (suc j) (suc k) n [] some within_j within_k = refl
first_chunks-enough (suc j) (suc k) n (byte ∷ bytes) some within_j within_k =
    let left = length-drop n (byte ∷ bytes) in
    ap (λ rest. take n (byte ∷ bytes) ∷ rest) (first_chunks-enough j k n (drop n (byte ∷ bytes)) some (omega arith) (omega arith))

-- chunks are the first n bytes, and the chunks of the others
pub chunks-step : (n : ℕ) (bytes : List ℕ) → 0 < n → 0 < length bytes → chunks n bytes ≡ take n bytes ∷ chunks n (drop n bytes)
chunks-step n [] some more = absurd (omega arith)
chunks-step n (byte ∷ bytes) some more =
    let left = length-drop n (byte ∷ bytes) in
    ap (λ rest. take n (byte ∷ bytes) ∷ rest)
    (first_chunks-enough (length bytes) (length (drop n (byte ∷ bytes))) n (drop n (byte ∷ bytes)) some (omega arith) (omega arith))

-- a chunk that was cut off is the first n bytes
cut_front : (n : ℕ) (all chunk rest : List ℕ) → all ≡ chunk ++ rest → length chunk ≡ min n (length all) → chunk ≡ take n all
cut_front n all chunk rest parts size =
    sym (take-append_seam chunk rest) ∙ ap (λ t. take (length chunk) t) (sym parts) ∙ ap (λ k. take k all) size ∙ take_min n all

cut_rest : (n : ℕ) (all chunk rest : List ℕ) → all ≡ chunk ++ rest → length chunk ≡ min n (length all) → rest ≡ drop n all
cut_rest n all chunk rest parts size =
    sym (drop-append_seam chunk rest) ∙ ap (λ t. drop (length chunk) t) (sym parts) ∙ ap (λ k. drop k all) size ∙ drop_min n all

-- a chunk that was cut off is the first of the chunks
pub chunks-cut : (n : ℕ) (all chunk rest : List ℕ) → 0 < n → 0 < length all → all ≡ chunk ++ rest → length chunk ≡ min n (length all)
    → chunks n all ≡ chunk ∷ chunks n rest
chunks-cut n all chunk rest some more parts size =
    rw (cut_front n all chunk rest parts size, cut_rest n all chunk rest parts size) (chunks-step n all some more)

-- the digits of bytes one after the other, where the current group takes `left` bytes more
unfoldable pub digits_from : ℕ → ℕ → List ℕ → List ℕ
digits_from group left [] = []
digits_from group zero (byte ∷ bytes) = (space ∷ byte_digits byte) ++ digits_from group (group - 1) bytes
digits_from group (suc left) (byte ∷ bytes) = byte_digits byte ++ digits_from group left bytes

-- a byte is written, and one byte fewer is left to its group
pub digits_from-step : (group left byte : ℕ) (bytes : List ℕ) → digits_from group left (byte ∷ bytes)
    ≡ (if left == 0 then space ∷ byte_digits byte else byte_digits byte) ++ digits_from group ((if left == 0 then group else left) - 1) bytes
unfolding digits_from
digits_from-step group zero byte bytes = refl
digits_from-step group (suc left) byte bytes =
    let more : (suc left == 0) ≡ false = grind (arith, nat_tests) in
    let less : suc left - 1 ≡ left = omega arith in
    rw (more, less) refl

-- the same, at the byte with this index in a row
pub digits_from-at : (group left : ℕ) (row : List ℕ) (k : ℕ) → k < length row → digits_from group left (drop k row)
    ≡ (if left == 0 then space ∷ byte_digits (get_or row k 0) else byte_digits (get_or row k 0))
    ++ digits_from group ((if left == 0 then group else left) - 1) (drop (k + 1) row)
digits_from-at group left row k within = rw (drop_more row k 0 within) (digits_from-step group left (get_or row k 0) (drop (k + 1) row))

pub digits_from-nil : (group left : ℕ) → digits_from group left [] ≡ []
unfolding digits_from
digits_from-nil group zero = refl
digits_from-nil group (suc left) = refl

-- the group's bytes come first, and then the other groups
digits_from-left : (group left : ℕ) (bytes : List ℕ) → digits_from group left bytes ≡ flat_map byte_digits (take left bytes) ++ digits_from group 0 (drop left bytes)
unfolding digits_from
digits_from-left group zero bytes = refl
digits_from-left group (suc left) [] = refl
digits_from-left group (suc left) (byte ∷ bytes) =
    ap (λ t. byte_digits byte ++ t) (digits_from-left group left bytes)
    ∙ sym (append_assoc (byte_digits byte) (flat_map byte_digits (take left bytes)) (digits_from group 0 (drop left bytes)))

-- groups, each with a space before it
digits_from-groups : (count group : ℕ) (bytes : List ℕ) → 0 < group → length bytes ≤ count
    → digits_from group 0 bytes ≡ flat_map (λ row. (space ∷ []) ++ flat_map byte_digits row) (first_chunks count group bytes)
unfolding digits_from
digits_from-groups zero group [] some within = refl
digits_from-groups zero group (byte ∷ bytes) some within = absurd (omega arith)
digits_from-groups (suc count) group [] some within = refl
digits_from-groups (suc count) zero (byte ∷ bytes) some within = absurd (omega arith)
digits_from-groups (suc count) (suc group) (byte ∷ bytes) some within =
    let left = length-drop group bytes in
    let others = digits_from-groups count (suc group) (drop group bytes) some (omega arith) in
    let less : suc group - 1 ≡ group = omega arith in
    ap (λ n. (space ∷ byte_digits byte) ++ digits_from (suc group) n bytes) less
    ∙ ap (λ t. (space ∷ byte_digits byte) ++ t) (digits_from-left (suc group) group bytes)
    ∙ rw others (sym (append_assoc (space ∷ byte_digits byte) (flat_map byte_digits (take group bytes)) _))

-- a row's digits, with a space between groups, one byte after the other
pub digits_from-row : (group : ℕ) (row : List ℕ) → 0 < group → digits_column group row ≡ digits_from group group row
unfolding digits_from
digits_from-row zero row some = absurd (omega arith)
digits_from-row (suc group) [] some = refl
digits_from-row (suc group) (byte ∷ row) some =
    let left = length-drop group row in
    sym
    (ap (λ t. byte_digits byte ++ t) (digits_from-left (suc group) group row)
    ∙ rw (digits_from-groups (length row) (suc group) (drop group row) some (omega arith))
    (sym (append_assoc (byte_digits byte) (flat_map byte_digits (take group row)) _)))

-- what the digits of a full row take more is two columns for each missing byte, and one for each missing space
pub missing_width : (group per_row n : ℕ) → 0 < group → 0 < n → n ≤ per_row → replicate (digits_width group per_row - digits_width group n) space
    ≡ replicate (per_row - n) space ++ (replicate (per_row - n) space ++ replicate ((per_row - 1) / group - (n - 1) / group) space)
missing_width group per_row n some some_byte within =
    let ordered : (n - 1) / group ≤ (per_row - 1) / group = le-div ((n - 1) / group) (per_row - 1) group some (omega (arith, div-mul-le_self (n - 1) group)) in
    rw (replicate-append-replicate, replicate-append-replicate) (ap (λ count. replicate count space) (omega arith))

-- a group has a byte
pub bytes_per_group-some : (dump : HexDump) → 0 < bytes_per_group dump
bytes_per_group-some dump = grind (arith, nat_tests)

-- a row has room for a byte
pub bytes_per_row-some : (dump : HexDump) → 0 < bytes_per_row dump
bytes_per_row-some dump = grind (arith, nat_tests)

-- the digits of bytes in groups, each with a space before it
abbrev pub spaced : ℕ → List ℕ → List ℕ
spaced group bytes = flat_map (λ chunk. space ∷ flat_map byte_digits chunk) (chunks group bytes)

-- after the first space come the digits with a space between groups
pub spaced-column : (group : ℕ) (row : List ℕ) → 0 < group → 0 < length row → drop 1 (spaced group row) ≡ digits_column group row
spaced-column group row some some_byte = rw (chunks-step group row some some_byte) refl

-- a chunk is put after the bytes before it
pub spaced-cut : (group : ℕ) (before all chunk rest : List ℕ) → 0 < group → 0 < length all → all ≡ chunk ++ rest → length chunk ≡ min group (length all)
    → ((before ++ space ∷ []) ++ flat_map byte_digits chunk) ++ spaced group rest ≡ before ++ spaced group all
spaced-cut group before all chunk rest some some_byte parts size =
    let digits = flat_map byte_digits chunk in
    let cut : spaced group all ≡ space ∷ (digits ++ spaced group rest) =
    ap (flat_map (λ chunk. space ∷ flat_map byte_digits chunk)) (chunks-cut group all chunk rest some some_byte parts size) in
    append_assoc (before ++ space ∷ []) digits (spaced group rest) ∙ append_assoc before (space ∷ []) (digits ++ spaced group rest)
    ∙ ap (λ t. before ++ t) (sym cut)

-- all chunks are put, and the text begins after the first space
pub spaced-all : (group : ℕ) (front rest row : List ℕ) → 0 < group → 0 < length row → rest ≡ [] → front ++ spaced group rest ≡ spaced group row
    → drop 1 front ≡ digits_column group row
spaced-all group front rest row some some_byte none written =
    ap (drop 1) (sym (append-nil front) ∙ ap (λ t. front ++ spaced group t) (sym none) ∙ written) ∙ spaced-column group row some some_byte
