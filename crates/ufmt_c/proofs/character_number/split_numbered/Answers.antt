use Rattle.std.proofs.Common.{◌≡◌, sym, ap, subst, ◌∙◌, List, ℕ, Option, Some, None, MatchOption}
use Rattle.std.specs.Char.{IsScalar}
use Rattle.std.specs.Char.Escape.{escape_unicode}
use Rattle.ufmt_grammar.specs.Reading.{strip}
use Rattle.ufmt_grammar.proofs.Parsing.{strip_found, strip_of_front}
use Rattle.ufmt_c.proofs.CharacterNumbers.{number_is}
use Rattle.ufmt_c.proofs.character_number.split_numbered.Goals as goal

pub returns-in_err-character : goal.returns-in_err-character
returns-in_err-character c = rw c.from_residual-in_err-character.ensures (λ d rest scalar is.
    let number = c.number_at_front.ensures ∙ number_is c.args.input.now c.in_ok-digits.digits.now c.in_ok-digits.ensures d rest scalar is in
    c.in_err-character.ensures.value (subst IsScalar (sym number) scalar))

pub returns-in-Some : goal.returns-in-Some
returns-in-Some c =
    let value = c.in_ok-character.ensures.value in
    (subst IsScalar (sym value.1) value.0, strip_found (escape_unicode c.in_ok-character.character) c.args.input.now c.in-Some.after.now (sym c.in-Some.ensures))

pub returns-in-None : goal.returns-in-None
returns-in-None c = λ d rest scalar is.
    let number = c.number_at_front.ensures ∙ number_is c.args.input.now c.in_ok-digits.digits.now c.in_ok-digits.ensures d rest scalar is in
    let same = c.in_ok-character.ensures.value.1 ∙ number in
    let some : ◌≡◌ {A = Option (List ℕ)} None (Some rest) =
    c.in-None.ensures ∙ ap (λ n. strip (escape_unicode n) c.args.input.now) same ∙ strip_of_front (escape_unicode d) c.args.input.now rest is in
    absurd (cc)
