-- What is found at a place is what is left of the text there.
use Rattle.std.proofs.Common.{◌≡◌, ◌≢◌, ℕ, ◌-◌, List, [], codes, drop, length, min, take, ap, ◌∙◌}
use Rattle.std.proofs.lemmas.List.{drop_min}
use Rattle.ufmt_parse.specs.Finding.{IsFound, IsWordOrOther}
use Rattle.ufmt_parse.specs.declared.found.Found.{Found}
use Rattle.ufmt_parse.specs.declared.found.Found.TheVariants.{End, LineFeed, Word, Other}
use Rattle.ufmt_parse.proofs.NamesBefore.{until_end}

pub left_at : (text : List ℕ) (at start : ℕ) → start ≡ min at (length text) → take (length text - start) (drop start text) ≡ drop at text
left_at text at start is = until_end text start ∙ ap (λ n. drop n text) is ∙ drop_min at text

-- a word or anything else is found where more than a line feed is left
pub found_there : (left : List ℕ) (found : Found) → left ≢ [] → left ≢ codes "\n" → IsWordOrOther left found → IsFound left found
found_there left End some more is = absurd is
found_there left LineFeed some more is = absurd is
found_there left (Word word) some more is = is
found_there left Other some more is = (some, more, is)
