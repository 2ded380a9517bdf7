-- The parts of a padded text, in the order in which they are written.
use Rattle.std.proofs.Common.{◌≡◌, ℕ, ◌+◌, ◌-◌, ◌≤◌, Bool, true, false, if◌then◌else◌, List, [], ◌∷◌, ◌++◌, length, replicate, refl, sym, ap, ◌∙◌, arith}
use Rattle.std.proofs.lemmas.List.{replicate_more, replicate-append-replicate}
use Rattle.ufmt.specs.declared.hex.HexOptions.{HexOptions}
use Rattle.ufmt.specs.Radix.{pads_first, padded_after}

-- n copies of an element are m copies, one more, and the remaining ones
pub replicate-front : (m n x : ℕ) → m + 1 ≤ n → replicate n x ≡ (replicate m x ++ x ∷ []) ++ replicate (n - (m + 1)) x
replicate-front m n x some =
    rw replicate_more (ap (λ count. replicate count x) (omega arith) ∙ sym (replicate-append-replicate (m + 1) (n - (m + 1)) x))

module _ (prefix : List ℕ) (options : HexOptions) (payload : List ℕ) (missing : ℕ)
    (is_missing : missing ≡ options.pad_length - (length prefix + length payload)) where
  pub padded-first : pads_first options ≡ true → padded_after prefix options payload ≡ replicate missing options.pad_char ++ (prefix ++ payload)
  padded-first first = rw (first, is_missing) refl

  pub padded-last : pads_first options ≡ false → padded_after prefix options payload ≡ prefix ++ (replicate missing options.pad_char ++ payload)
  padded-last last = rw (last, is_missing) refl

-- all padding on one side of the prefix, and none on the other
placed : (prefix payload : List ℕ) (pad missing : ℕ) (first : Bool)
    → (if first then replicate missing pad ++ (prefix ++ payload) else prefix ++ (replicate missing pad ++ payload))
    ≡ replicate (if first then missing else 0) pad ++ (prefix ++ (replicate (if first then 0 else missing) pad ++ payload))
placed prefix payload pad missing true = refl
placed prefix payload pad missing false = refl

-- a padded text is its padding before the prefix, the prefix, its padding after it, and the payload
pub padded-placed : (prefix : List ℕ) (options : HexOptions) (payload : List ℕ) (missing before after : ℕ)
    → missing ≡ options.pad_length - (length prefix + length payload)
    → before ≡ (if pads_first options then missing else 0) → after ≡ (if pads_first options then 0 else missing)
    → padded_after prefix options payload ≡ replicate before options.pad_char ++ (prefix ++ (replicate after options.pad_char ++ payload))
padded-placed prefix options payload missing before after is_missing is_before is_after =
    rw (is_before, is_after, is_missing) (placed prefix payload options.pad_char (options.pad_length - (length prefix + length payload)) (pads_first options))
