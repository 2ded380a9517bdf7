-- A number that is padded to less than its width shows the same in a buffer.
use Rattle.std.proofs.Common.{◌≡◌, inl, inr, refl, sym, ap, ◌∙◌, Bool, true, false, ℕ, ◌+◌, ◌-◌, ◌^◌, ◌<◌, ◌≤◌, min, List, [], ◌++◌, length, take, replicate, append-nil, length-append, arith}
use Rattle.std.proofs.Math.Nat.{min-eq_left, min-eq_right}
use Rattle.std.proofs.lemmas.Bool.{cases_lt}
use Rattle.std.proofs.lemmas.List.{length-replicate}
use Rattle.ufmt_core.proofs.NumeralTexts.{length-text-le}
use Rattle.ufmt.specs.declared.hex.HexOptions.{HexOptions}
use Rattle.ufmt.specs.declared.radix.Radix.{Radix}
use Rattle.ufmt.specs.declared.radix.Radix.TheVariants.{Binary, Octal, Hexadecimal}
use Rattle.ufmt.specs.Radix.{base_of, digits_in, padded_after, padded_in, pads_first, prefix_in}
use Rattle.ufmt.proofs.Padding.{padded-first, padded-last}
use Rattle.ufmt.proofs.RadixTexts.{digits-in_base, room_in_base}
use Rattle.ufmt_c.specs.Private.Narrow.{StandsFor}
use Rattle.ufmt_c.proofs.Fronts.{same_after, same_bytes}

module _ (prefix payload : List ℕ) where
  -- how many pad bytes there are
  abbrev missing : HexOptions → ℕ
  missing options = options.pad_length - (length prefix + length payload)

  length-padded : (options : HexOptions) (b : Bool) → pads_first options ≡ b → length (padded_after prefix options payload) ≡ missing options + (length prefix + length payload)
  length-padded options true first = omega (
    arith,
    ap length (padded-first prefix options payload (missing options) refl first),
    length-append (replicate (missing options) options.pad_char) (prefix ++ payload),
    length-append prefix payload,
    length-replicate (missing options) options.pad_char,
  )
  length-padded options false last = omega (
    arith,
    ap length (padded-last prefix options payload (missing options) refl last),
    length-append prefix (replicate (missing options) options.pad_char ++ payload),
    length-append (replicate (missing options) options.pad_char) payload,
    length-replicate (missing options) options.pad_char,
  )

  module _ (room : ℕ) (options : HexOptions) (short : length prefix + length payload ≤ 66) where
    abbrev narrow : ℕ → HexOptions
    narrow width = record options { pad_length = width }

    shows : (b : Bool) → pads_first options ≡ b → (m n : ℕ) → room + 66 ≤ m → room + 66 ≤ n
        → take room (padded_after prefix (narrow m) payload) ≡ take room (padded_after prefix (narrow n) payload)
    shows true first m n more_m more_n =
        ap (take room) (padded-first prefix (narrow m) payload (missing (narrow m)) refl first)
        ∙ same_bytes room (missing (narrow m)) (missing (narrow n)) options.pad_char (prefix ++ payload) (prefix ++ payload) (omega arith) (omega arith)
        ∙ sym (ap (take room) (padded-first prefix (narrow n) payload (missing (narrow n)) refl first))
    shows false last m n more_m more_n =
        ap (take room) (padded-last prefix (narrow m) payload (missing (narrow m)) refl last)
        ∙ same_after room prefix (replicate (missing (narrow m)) options.pad_char ++ payload) (replicate (missing (narrow n)) options.pad_char ++ payload)
        (λ k within. same_bytes k (missing (narrow m)) (missing (narrow n)) options.pad_char payload payload (omega arith) (omega arith))
        ∙ sym (ap (take room) (padded-last prefix (narrow n) payload (missing (narrow n)) refl last))

    narrower : (n : ℕ) → n ≡ room + 66 → n ≤ options.pad_length
        → StandsFor room (padded_after prefix (narrow n) payload) (options.pad_length - n) (padded_after prefix options payload)
    narrower n is less = record {
      front = shows (pads_first options) refl options.pad_length n (omega arith) (omega arith);
      longer = omega (arith, length-padded options (pads_first options) refl, length-padded (narrow n) (pads_first options) refl);
    }

    as_wide : (n : ℕ) → n ≡ options.pad_length → StandsFor room (padded_after prefix (narrow n) payload) (options.pad_length - n) (padded_after prefix options payload)
    as_wide n is = rw is (record { front = refl; longer = omega arith })

    -- a width that is cut after the buffer and the longest number
    pub stands_padded : (n : ℕ) → n ≡ min options.pad_length (room + 66)
        → StandsFor room (padded_after prefix (narrow n) payload) (options.pad_length - n) (padded_after prefix options payload)
    stands_padded n is = elim (cases_lt options.pad_length (room + 66)) [
      | inl less ↦ as_wide n (is ∙ min-eq_left (omega arith))
      | inr more ↦ narrower n (is ∙ min-eq_right more) (omega (arith, is))
    ]

length-prefix : (radix : Radix) (options : HexOptions) (asked : Bool) (upper_case : Bool) → options.ox_prefix ≡ asked → options.upper_case ≡ upper_case → length (prefix_in radix options) ≤ 2
length-prefix radix options false upper_case is case = rw is (omega arith)
length-prefix Binary options true upper_case is case = rw is (omega arith)
length-prefix Octal options true upper_case is case = rw is (omega arith)
length-prefix Hexadecimal options true true is case = rw (is, case) (omega arith)
length-prefix Hexadecimal options true false is case = rw (is, case) (omega arith)

two : (radix : Radix) → 2 ≤ base_of radix
two Binary = omega arith
two Octal = omega arith
two Hexadecimal = omega arith

-- a line of a number of 64 bits, with options that are narrower
pub stands_number : (radix : Radix) (room number : ℕ) (whole options narrow : HexOptions) → number < 2 ^ 64
    → options ≡ whole → narrow ≡ record options { pad_length = min options.pad_length (room + 66) }
    → StandsFor room (padded_in radix narrow number ++ []) (options.pad_length - narrow.pad_length) (padded_in radix whole number)
stands_number radix room number whole options narrow low is is_narrow =
    let digits = length-text-le (digits-in_base (base_of radix) (two radix) options.upper_case) 64 number (omega arith) (room_in_base (base_of radix) number 64 (two radix) low) in
    rw (append-nil, is_narrow, ← is) (stands_padded (prefix_in radix options) (digits_in (base_of radix) options.upper_case number) room options
    (omega (arith, digits, length-prefix radix options options.ox_prefix options.upper_case refl refl)) (min options.pad_length (room + 66)) refl)
