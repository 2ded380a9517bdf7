-- What the calls from C return, and what they leave in the caller's buffer and in `detail`.
use Rattle.std.specs.Prelude.{◌≡◌, ℕ, ◌^◌, ◌-◌, ◌<◌, ◌≤◌, min, ℤ, pos, negsuc, List, length, take, drop}
use Rattle.std.specs.Str.{IsValidUpTo}

abbrev pub no_text : ℤ
no_text = negsuc 0

abbrev pub full : ℤ
full = negsuc 1

abbrev pub not_utf8 : ℤ
not_utf8 = negsuc 2

abbrev pub bad_option : ℤ
bad_option = negsuc 3

-- a length as a `size_t` reports it
abbrev pub reported : ℕ → ℕ
reported n = min (2 ^ 64 - 1) n

-- the text was put to the front of a buffer, as much as fits, and the bytes after it stay: `old` and `new` are the bytes before and after
pub record HasPut (old text new : List ℕ) : Type 0 where
  pub same_length : length new ≡ length old
  pub front : take (length text) new ≡ take (length old) text
  pub after : drop (length text) new ≡ drop (length text) old

-- what a call returns and leaves that writes this text to a buffer
pub record PutsText (old text : List ℕ) (result : ℤ) (new : List ℕ) (detail : ℕ) : Type 0 where
  pub same_length : length new ≡ length old
  -- the text's length is reported
  pub reports : detail ≡ reported (length text)
  -- a text that fits is at the front, the bytes after it stay, and its length is returned
  pub fits : length text ≤ length old → (result ≡ pos (length text)) × (take (length text) new ≡ text) × (drop (length text) new ≡ drop (length text) old)
  -- a longer text is cut where the buffer ends
  pub cut : length old < length text → (result ≡ full) × (new ≡ take (length old) text)

-- a call that writes nothing: the buffer and `detail` stay
pub record WritesNothing (old : List ℕ) (before : ℕ) (new : List ℕ) (detail : ℕ) : Type 0 where
  pub same_buffer : new ≡ old
  pub same_detail : detail ≡ before

-- a call that takes a text was passed bytes that are not UTF-8: it reports how many bytes at the front are
pub record RefusesText (input : List ℕ) (result : ℤ) (detail : ℕ) : Type 0 where
  pub refused : result ≡ not_utf8
  pub place : IsValidUpTo input detail

-- the same of a call with a buffer, which stays
pub record RefusesBytes (input old : List ℕ) (result : ℤ) (new : List ℕ) (detail : ℕ) : Type 0 where
  pub refused : RefusesText input result detail
  pub same_buffer : new ≡ old
