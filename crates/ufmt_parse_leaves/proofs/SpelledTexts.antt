-- Bytes as they are written between quotation marks, up to the closing one.
use Rattle.std.proofs.Common.{◌≡◌, inl, refl, sym, ap, ◌∙◌, ℕ, List, [], ◌∷◌, ◌++◌, take, drop, Some, true, append_assoc, append-nil}
use Rattle.std.proofs.lemmas.List.{take-append-drop}
use Rattle.ufmt_core.specs.Quoted.{escaped_byte, escaped_bytes, unescaped_len}
use Rattle.ufmt_grammar.specs.Reading.{strip}
use Rattle.ufmt_grammar.proofs.Parsing.{strip_found}
use Rattle.ufmt_parse_leaves.specs.Spelling.{all_plain}
use Rattle.ufmt_parse_leaves.proofs.PlainFronts.{plain_itself}
use Rattle.ufmt_scan.proofs.Spelled.{escaped_bytes-append, quote_ends, same_bytes, stretch_itself}
pub use Rattle.ufmt_scan.proofs.Spelled.{spelled_shorter, stretch_within}

-- bytes that are written as themselves are pushed
pub stretch_pushed : (bs t plain rest : List ℕ) (n : ℕ) → n ≡ unescaped_len t → plain ≡ take n t → rest ≡ drop n t
    → escaped_bytes 34 (bs ++ plain) ++ rest ≡ escaped_bytes 34 bs ++ t
stretch_pushed bs t plain rest n is front back =
    ap (λ e. e ++ rest) (escaped_bytes-append 34 bs plain) ∙ append_assoc (escaped_bytes 34 bs) (escaped_bytes 34 plain) rest
    ∙ ap (λ e. escaped_bytes 34 bs ++ e) (ap (λ p. escaped_bytes 34 p ++ rest) front ∙ ap (λ e. e ++ rest) (stretch_itself t n is) ∙ ap (λ r. take n t ++ r) back ∙ take-append-drop n t)

-- a byte that is pushed is no longer to come
pub byte_read : (b : ℕ) (bs more t u : List ℕ) → more ≡ bs ++ b ∷ [] → t ≡ escaped_byte 34 b ++ u → escaped_bytes 34 more ++ u ≡ escaped_bytes 34 bs ++ t
byte_read b bs more t u pushed is =
    ap (λ e. escaped_bytes 34 e ++ u) pushed ∙ ap (λ e. e ++ u) (escaped_bytes-append 34 bs (b ∷ []) ∙ ap (λ e. escaped_bytes 34 bs ++ e) (append-nil (escaped_byte 34 b)))
    ∙ append_assoc (escaped_bytes 34 bs) (escaped_byte 34 b) u ∙ ap (λ e. escaped_bytes 34 bs ++ e) (sym is)

-- plain bytes are pushed
pub plain_pushed : (bs plain rest t : List ℕ) → all_plain plain ≡ true → t ≡ plain ++ rest → escaped_bytes 34 (bs ++ plain) ++ rest ≡ escaped_bytes 34 bs ++ t
plain_pushed bs plain rest t itself whole =
    ap (λ e. e ++ rest) (escaped_bytes-append 34 bs plain) ∙ append_assoc (escaped_bytes 34 bs) (escaped_bytes 34 plain) rest
    ∙ ap (λ e. escaped_bytes 34 bs ++ e) (ap (λ p. p ++ rest) (plain_itself plain itself) ∙ sym whole)

-- an escape's byte is pushed, and then the plain bytes after it
pub escape_pushed : (b : ℕ) (bs more most t after plain end whole : List ℕ) → more ≡ bs ++ b ∷ [] → most ≡ more ++ plain → all_plain plain ≡ true → t ≡ escaped_byte 34 b ++ after
    → after ≡ plain ++ end → escaped_bytes 34 bs ++ t ≡ whole → escaped_bytes 34 most ++ end ≡ whole
escape_pushed b bs more most t after plain end whole first then itself spelled splits so_far =
    ap (λ e. escaped_bytes 34 e ++ end) then ∙ plain_pushed more plain end after itself splits ∙ byte_read b bs more t after first spelled ∙ so_far

-- the bytes between quotation marks are determined
pub closed_once : (bs cs t u : List ℕ) → escaped_bytes 34 bs ++ (34 ∷ t) ≡ escaped_bytes 34 cs ++ (34 ∷ u) → (bs ≡ cs) × (t ≡ u)
closed_once bs cs t u same =
    let both = same_bytes 34 (inl refl) bs cs (34 ∷ t) (34 ∷ u) (quote_ends 34 (inl refl) t) (quote_ends 34 (inl refl) u) same in
    (both.0, ap (drop 1) both.1)

-- the closing quotation mark comes after the bytes that were read
pub closed_after : (bs t end after : List ℕ) → escaped_bytes 34 bs ++ end ≡ t → Some after ≡ strip (34 ∷ []) end → t ≡ escaped_bytes 34 bs ++ (34 ∷ after)
closed_after bs t end after read closes = sym read ∙ ap (λ e. escaped_bytes 34 bs ++ e) (strip_found (34 ∷ []) end after (sym closes))

pub ruleset spelling = (stretch_within, stretch_pushed, spelled_shorter)
