use Rattle.ufmt_grammar.proofs.NumbersAreWords.{decimal_is_word}
use Rattle.ufmt_grammar.proofs.laws.numbers_are_words.Goals as goal

pub returns : goal.returns
returns c = decimal_is_word
