-- A device as a writer: what is known of it stays known, and grows by what was written.
use Rattle.std.proofs.Common.{◌≡◌, ◌∙◌, ap, ℕ, ◌+◌, ◌<◌, ◌≤◌, List, [], ◌++◌, append-nil, Option, None, Some, Result, Ok, true, false, length, take, drop, subst, sym, refl, arith}
use Rattle.std.proofs.KnownBytes.{Appends-trans}
use Rattle.std.proofs.Math.Seq.{take-add}
use Rattle.std.proofs.lemmas.List.{take-append-drop, take_all}
use Rattle.std.specs.Io.KnownBytes.{Appends, WriteAppends}
use Rattle.ufmt.specs.Device.{IsKnown, device_of, device_seen, known_bytes}
use Rattle.ufmt.specs.declared.device.Device.{Device}
use Rattle.ufmt_core.specs.Writes.{Writes}

known_stays : (old new : Option (List ℕ)) (bytes : List ℕ) → Appends old new bytes → IsKnown old → IsKnown new
known_stays None new bytes grown known = absurd known
known_stays (Some old) None bytes grown known = grown
known_stays (Some old) (Some new) bytes grown known = tt

known_grows : (old new : Option (List ℕ)) (bytes : List ℕ) → Appends old new bytes → IsKnown old → known_bytes new ≡ known_bytes old ++ bytes
known_grows None new bytes grown known = absurd known
known_grows (Some old) None bytes grown known = absurd grown
known_grows (Some old) (Some new) bytes grown known = grown

module _ {W : Type 0} (contents : W → Option (List ℕ)) where
  -- all of the piece was written
  pub writes_whole : (old new : Device W) (piece bytes : List ℕ) (written : ℕ) → bytes ≡ piece → written ≡ length bytes
      → Appends (contents (device_of old)) (contents (device_of new)) (take written bytes) → Writes (device_seen contents) old piece true new
  writes_whole old new piece bytes written same all so_far =
      let grown = subst (Appends (contents (device_of old)) (contents (device_of new))) (take_all _ bytes (omega (arith, all)) ∙ same) so_far in
      record {
        stays_known = known_stays _ _ piece grown;
        appended = known_grows _ _ piece grown;
        fits = λ fits. refl;
        room_left = λ fits. omega arith;
        has_failed = λ _. tt;
        same_identity = refl;
        untouched = λ known. refl;
      }

  -- less than the piece was written
  pub writes_front : (old new : Device W) (piece bytes : List ℕ) (written : ℕ) → bytes ≡ piece → written < length bytes
      → Appends (contents (device_of old)) (contents (device_of new)) (take written bytes) → Writes (device_seen contents) old piece false new
  writes_front old new piece bytes written same less so_far =
      let front = subst (λ bytes. Appends (contents (device_of old)) (contents (device_of new)) (take written bytes)) same so_far in
      record {
        stays_known = known_stays _ _ (take written piece) front;
        appended = λ known. (
          take written piece,
          record { remainder = drop written piece; joined = sym (take-append-drop written piece) },
          known_grows _ _ (take written piece) front known,
        );
        fits = λ fits. absurd (omega (arith, less, fits, ap length same));
        room_left = λ fits. omega arith;
        has_failed = λ _. tt;
        same_identity = refl;
        untouched = λ known. refl;
      }

-- a front that was written, and then the front of what is left, are a longer front
pub longer_front : (first second third : Option (List ℕ)) (piece : List ℕ) (written count : ℕ)
    → Appends first second (take written piece) → Appends second third (take count (drop written piece)) → Appends first third (take (written + count) piece)
longer_front first second third piece written count before more =
    subst (Appends first third) (sym (take-add written count piece)) (Appends-trans first second third _ _ before more)

-- a write of no bytes changes nothing
pub same_front : {E : Type 0} (first second third : Option (List ℕ)) (front left : List ℕ) (result : Result ℕ E) (count : ℕ) → result ≡ Ok count → count ≡ 0
    → Appends first second front → WriteAppends second third result left → Appends first third front
same_front first second third front left result count is none before written =
    let more : Appends second third (take count left) = subst (λ result. WriteAppends second third result left) is written in
    let nothing : Appends second third [] = subst (λ count. Appends second third (take count left)) none more in
    subst (Appends first third) (append-nil front) (Appends-trans first second third front [] before nothing)
