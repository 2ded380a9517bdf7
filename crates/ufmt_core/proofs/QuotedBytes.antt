-- Quoted texts byte by byte: stretches without escapes, escapes, and the part of a text that was printed so far.
use Rattle.std.proofs.Common.{◌≡◌, ℕ, ◌<◌, ◌≤◌, List, [], ◌∷◌, ◌++◌, Bool, true, false, length, take, drop, Option, Some, None, is_none, refl, sym, ap, ◌∙◌, append_assoc, append-nil, arith}
use Rattle.std.specs.List.{slice_index}
use Rattle.std.specs.Prelude.{unwrap_or}
use Rattle.std.specs.Str.{IsCharBoundary}
use Rattle.std.proofs.lemmas.Bool.Decides.{nat_tests}
use Rattle.ufmt_core.specs.Formatter.{Formatter, Prints}
use Rattle.ufmt_core.specs.Quoted.{escape, escaped, escaped_byte, escaped_bytes, unescaped_len, quoted_char}
use Rattle.ufmt_core.specs.Writes.{Seen}
use Rattle.ufmt_core.proofs.Writing.{Prints-then, Prints-fails, Prints-same}

pub escape-past_ascii : (q b : ℕ) → q < 128 → 128 ≤ b → escape q b ≡ None
escape-past_ascii q b low high = grind (arith, nat_tests)

-- an escaped byte is ASCII
pub escape-ascii : (b : ℕ) → is_none (escape 34 b) ≡ false → b < 128
escape-ascii b escaped = grind (arith, nat_tests)

-- a byte without an escape prints as itself
escaped_byte-plain : (b : ℕ) → is_none (escape 34 b) ≡ true → escaped_byte 34 b ≡ b ∷ []
escaped_byte-plain b plain = go (escape 34 b) plain
  where
    go : (e : Option (List ℕ)) → is_none e ≡ true → unwrap_or e (b ∷ []) ≡ b ∷ []
    go None h = refl
    go (Some e) h = absurd (cc)

-- the stretch at the front: it and the rest escaped are the text escaped; an escape or the end follows it; and there the
-- text ends or has a byte of ASCII
pub record IsStretch (bs : List ℕ) : Type 0 where
  pub escaped : escaped_bytes 34 bs ≡ take (unescaped_len bs) bs ++ escaped_bytes 34 (drop (unescaped_len bs) bs)
  pub after : unescaped_len (drop (unescaped_len bs) bs) ≡ 0
  pub within : unescaped_len bs ≤ length bs
  pub ascii : unescaped_len bs < length bs → slice_index bs (unescaped_len bs) < 128

pub stretch : (bs : List ℕ) → IsStretch bs
stretch [] = record { escaped = refl; after = refl; within = omega arith; ascii = λ more. absurd (omega arith) }
stretch (b ∷ bs) = go (is_none (escape 34 b)) refl (stretch bs)
  where
    go : (plain : Bool) → is_none (escape 34 b) ≡ plain → IsStretch bs → IsStretch (b ∷ bs)
    go true h rest = record {
      escaped = rw (h, escaped_byte-plain b h) (ap (λ t. b ∷ t) rest.escaped);
      after = rw h rest.after;
      within = rw h (omega (arith, rest.within));
      ascii = rw h (λ more. rest.ascii (omega arith));
    }
    go false h rest = record { escaped = rw h refl; after = rw (h, h) refl; within = rw h (omega arith); ascii = rw h (λ more. escape-ascii b h) }

-- the text may be cut after the stretch
pub IsCharBoundary-stretch : (bs : List ℕ) → IsCharBoundary bs (unescaped_len bs)
IsCharBoundary-stretch bs = let front = stretch bs in (front.within, λ more high. absurd (omega (arith, front.ascii more)))

-- a quoted character is its two quotes and the text between them
pub quoted_char-parts : (c : ℕ) → quoted_char c ≡ (39 ∷ []) ++ (escaped 39 c ++ (39 ∷ []))
quoted_char-parts c = ap (λ t. 39 ∷ (t ++ (39 ∷ []))) (append-nil (escaped 39 c))

-- all of the text but the part that is left was printed
pub record PrintedBefore {W : Type 0} (seen : Seen W) (old : Formatter W) (whole left : List ℕ) (new : Formatter W) : Type 0 where
  pub done : List ℕ
  pub joined : whole ≡ done ++ left
  pub prints : Prints seen old done true new

module _ {W : Type 0} {seen : Seen W} where
  -- one more part was printed
  pub PrintedBefore-then : {old mid new : Formatter W} {whole left : List ℕ} (part more : List ℕ) → PrintedBefore seen old whole left mid
      → left ≡ part ++ more → Prints seen mid part true new → PrintedBefore seen old whole more new
  PrintedBefore-then part more before is printed = record {
    done = before.done ++ part;
    joined = before.joined ∙ ap (λ t. before.done ++ t) is ∙ sym (append_assoc before.done part more);
    prints = Prints-then before.prints printed;
  }

  -- printing one more part failed
  pub PrintedBefore-fails : {old mid new : Formatter W} {whole left : List ℕ} (part more : List ℕ) → PrintedBefore seen old whole left mid
      → left ≡ part ++ more → Prints seen mid part false new → Prints seen old whole false new
  PrintedBefore-fails part more before is printed =
      Prints-same (sym (before.joined ∙ ap (λ t. before.done ++ t) is)) (Prints-then before.prints (Prints-fails more printed))
