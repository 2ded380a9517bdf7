-- A text that grows at the front of a vector.
use Rattle.std.proofs.Common.{◌≡◌, ◌∙◌, refl, sym, subst, ℕ, zero, ◌<◌, ◌≤◌, Bool, true, false, if◌then◌else◌, List, [], ◌++◌, append-nil, length, length-append, take, arith}
use Rattle.std.specs.Str.{IsUtf8, is_utf8}
use Rattle.std.proofs.Math.Seq.{take-append_seam, take-length}
use Rattle.std.proofs.lemmas.List.{length-take-le, with_items_is}
use Rattle.std.proofs.lemmas.Slice.{take-put_mid}
use Rattle.std.proofs.lemmas.Str.{IsUtf8-append, IsUtf8-nil, IsUtf8-from_is_utf8, is_utf8-from_IsUtf8}
use Rattle.ufmt_core.specs.Writes.{Writes}
use Rattle.ufmt_scan.specs.declared.convert.growing.Growing.{Growing}
use Rattle.ufmt_scan.specs.Private.Growing.{growing_seen}

pub utf8_appended : (a b : List ℕ) → is_utf8 a ≡ true → IsUtf8 b → is_utf8 (a ++ b) ≡ true
utf8_appended a b first more = is_utf8-from_IsUtf8 (a ++ b) (IsUtf8-append a b (IsUtf8-from_is_utf8 a first) more)

-- a text stays when zeros are filled in after it, also if that fails
pub fill_keeps : (ok : Bool) (text zeros items : List ℕ) → items ≡ (if ok then text ++ zeros else text)
    → (length text ≤ length items) × (take (length text) items ≡ text)
fill_keeps true text zeros items is = rw is (omega (arith, length-append text zeros), take-append_seam text zeros)
fill_keeps false text zeros items is = rw is (omega arith, take-length text)

take_twice : (n : ℕ) (xs : List ℕ) → n ≤ length xs → take n (take n xs) ≡ take n xs
take_twice n xs within = subst (λ k. take k (take n xs) ≡ take n xs) (length-take-le n xs within) (take-length (take n xs))

-- a piece that fails leaves the text as it was
pub stays : (old new : Growing) (piece : List ℕ) → zero < length piece → new.count ≡ old.count → new.bytes.items ≡ take old.count old.bytes.items
    → Writes growing_seen old piece false new
stays old new piece some count items =
    let same : take new.count new.bytes.items ≡ take old.count old.bytes.items = rw (count, items) (take_twice old.count old.bytes.items old.within) in record {
      stays_known = λ known. tt;
      appended = λ known. ([], record { remainder = piece; joined = refl }, same ∙ sym (append-nil (take old.count old.bytes.items)));
      fits = λ fits. absurd (omega (arith, some, fits));
      room_left = λ fits. omega arith;
      has_failed = λ _. tt;
      same_identity = refl;
      untouched = λ known. refl;
    }

-- what the proofs of `Growing`'s methods cite
pub ruleset growing = (IsUtf8-nil, IsUtf8-from_is_utf8, is_utf8-from_IsUtf8, utf8_appended, fill_keeps, stays, take-put_mid, with_items_is)
