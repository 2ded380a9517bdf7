-- How many bytes come before the first bracket, in the words of a search.
use Rattle.std.proofs.Common.{◌≡◌, refl, ap, ℕ, cond, List, arith}
use Rattle.std.proofs.lemmas.List.Recursion.{is_position_or_len}
use Rattle.std.specs.List.{position_or_len}
use Rattle.ufmt.specs.Leaves.{is_opening}
use Rattle.ufmt_values.specs.Values.{before_bracket}

pub brackets_before : (text : List ℕ) → before_bracket text ≡ position_or_len is_opening text
brackets_before = is_position_or_len before_bracket is_opening refl (λ c t. ap (cond (is_opening c) 0) (omega arith))
