use Rattle.ufmt_c.proofs.kinds.ufmt_is_text.Goals as goal

pub returns-clause-text : goal.returns-clause-text
returns-clause-text c is_true = rw (← c.in-Some.ensures.1, ← c.in-Some-to_mode.ensures.1) (c.is_text.ensures.text is_true)

pub returns-clause-no_text : goal.returns-clause-no_text
returns-clause-no_text c choices is_false = rw (← c.in-Some.ensures.1, ← c.in-Some-to_mode.ensures.1) (c.is_text.ensures.no_text is_false)
