use Rattle.std.proofs.Common.{rules, refl}
use Rattle.ufmt_lines.specs.Arguments.{word_of}
use Rattle.ufmt_lines.proofs.Words.{unequal}
use Rattle.ufmt_lines.proofs.run.arguments.word_of.Goals as goal

pub returns-in-text : goal.returns-in-text
unfolding word_of
returns-in-text c = rw c.in-text.is refl

pub returns-in-text-2 : goal.returns-in-text-2
unfolding word_of
returns-in-text-2 c = rw c.in-text-2.is refl

pub returns-in-text-3 : goal.returns-in-text-3
unfolding word_of
returns-in-text-3 c = rw c.in-text-3.is refl

pub returns-in-text-4 : goal.returns-in-text-4
unfolding word_of
returns-in-text-4 c = rw c.in-text-4.is refl

pub returns-in-text-5 : goal.returns-in-text-5
unfolding word_of
returns-in-text-5 c = rw c.in-text-5.is refl

pub returns-in-text-6 : goal.returns-in-text-6
unfolding word_of
returns-in-text-6 c = rw c.in-text-6.is refl

pub returns-in-text-7 : goal.returns-in-text-7
unfolding word_of
returns-in-text-7 c = rw c.in-text-7.is refl

pub returns-in_default : goal.returns-in_default
unfolding word_of
returns-in_default c =
    let no = c.in_default in
    rw (unequal _ _ no.not-text, unequal _ _ no.not-text-2, unequal _ _ no.not-text-3, unequal _ _ no.not-text-4, unequal _ _ no.not-text-5, unequal _ _ no.not-text-6, unequal _ _ no.not-text-7) (search rules)

pub returns-in_default-2 : goal.returns-in_default-2
unfolding word_of
returns-in_default-2 c =
    let no = c.in_default in
    rw (unequal _ _ no.not-text, unequal _ _ no.not-text-2, unequal _ _ no.not-text-3, unequal _ _ no.not-text-4, unequal _ _ no.not-text-5, unequal _ _ no.not-text-6, unequal _ _ no.not-text-7) (search rules)

pub returns-in_default-3 : goal.returns-in_default-3
unfolding word_of
returns-in_default-3 c =
    let no = c.in_default in
    rw (unequal _ _ no.not-text, unequal _ _ no.not-text-2, unequal _ _ no.not-text-3, unequal _ _ no.not-text-4, unequal _ _ no.not-text-5, unequal _ _ no.not-text-6, unequal _ _ no.not-text-7) (search rules)
