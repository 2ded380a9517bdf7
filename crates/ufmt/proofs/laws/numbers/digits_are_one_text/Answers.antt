use Rattle.ufmt.specs.Radix.{digits_in}
use Rattle.ufmt.proofs.RadixTexts.{digits_in-denotes, DenotesIn-one, DenotesIn-number}
use Rattle.ufmt.proofs.laws.numbers.digits_are_one_text.Goals as goal

pub returns-clause-denoted : goal.returns-clause-denoted
returns-clause-denoted c = digits_in-denotes

pub returns-clause-one_text : goal.returns-clause-one_text
returns-clause-one_text c = λ base two upper_case n text denotes.
    DenotesIn-one base two upper_case n text (digits_in base upper_case n) denotes (digits_in-denotes base two upper_case n)

pub returns-clause-one_number : goal.returns-clause-one_number
returns-clause-one_number c = DenotesIn-number
