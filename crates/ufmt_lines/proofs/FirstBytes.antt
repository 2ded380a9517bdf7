-- How long the first line is, in the words of a search.
use Rattle.std.proofs.Common.{◌≡◌, refl, ap, ℕ, cond, List, arith}
use Rattle.std.proofs.lemmas.List.Recursion.{is_position_or_len}
use Rattle.std.specs.List.{position_or_len}
use Rattle.ufmt_lines.specs.Private.LineLen.{is_line_feed, line_len}

pub line_feeds_before : (text : List ℕ) → line_len text ≡ position_or_len is_line_feed text
line_feeds_before = is_position_or_len line_len is_line_feed refl (λ c t. ap (cond (is_line_feed c) 0) (omega arith))
