use Rattle.std.proofs.Common.{◌≡◌, rules, refl, ap, sym, ◌∙◌, [], ◌∷◌, ◌+◌, ◌-◌, length, length-append, arith}
use Rattle.ufmt.specs.Quoted.{escaped_bytes}
use Rattle.ufmt_grammar.proofs.Parsing.{strip_found}
use Rattle.ufmt_c.specs.Quotes.{UnquotesText}
use Rattle.ufmt_c.proofs.Puts.{as_reported, put_cut, put_whole}
use Rattle.ufmt_c.proofs.Unquoting.{done_utf8, no_front, not_quoted-longer, not_quoted-misspelled, not_quoted-no_mark, quoted_is, stops-longer, stops-misspelled, stops-no_mark}
use Rattle.ufmt_c.proofs.quoted.ufmt_unquote.Goals as goal

pub returns-in_default : goal.returns-in_default
returns-in_default c =
    let front = c.text_at_front-front.result.now in
    let none = no_front front c.in_default.ensures in
    let is = c.text_at_front-front.ensures in
    UnquotesText.none (not_quoted-no_mark _ front is none) refl (search rules) (stops-no_mark _ front is none)

pub returns-in_default-strip_byte : goal.returns-in_default-strip_byte
returns-in_default-strip_byte c =
    let front = c.text_at_front-front.result.now in
    let is = c.text_at_front-front.ensures in
    let decoded = c.decode-decoded.ensures.decoded in
    let rest = c.decode-decoded.result.rest.now in
    let spelled = strip_found (34 ∷ []) front c.in-Some.inside.now (sym c.in-Some.ensures) ∙ ap (λ t. 34 ∷ t) decoded.1 in
    let ends = c.decode-decoded.ensures.ends in
    let none = no_front rest c.in_default-strip_byte.ensures in
    let at : length front - length rest ≡ 1 + length (escaped_bytes 34 decoded.0)
    = omega (arith, ap length spelled, length-append (escaped_bytes 34 decoded.0) rest) in
    UnquotesText.none (not_quoted-misspelled _ front is decoded.0 rest spelled ends none _ at) refl (search (rules, decoded.3))
    (stops-misspelled _ front is decoded.0 rest spelled ends none _ at)

pub returns-then-end-input : goal.returns-then-end-input
returns-then-end-input c =
    let front = c.text_at_front-front.result.now in
    let is = c.text_at_front-front.ensures in
    let decoded = c.decode-decoded.ensures.decoded in
    let rest = c.decode-decoded.result.rest.now in
    let after = c.in-Some-strip_byte.after.now in
    let spelled = strip_found (34 ∷ []) front c.in-Some.inside.now (sym c.in-Some.ensures) ∙ ap (λ t. 34 ∷ t) decoded.1 in
    let ends = c.decode-decoded.ensures.ends in
    let last = strip_found (34 ∷ []) rest after (sym c.in-Some-strip_byte.ensures) in
    let at : length front - length after ≡ 2 + length (escaped_bytes 34 decoded.0)
    = omega (arith, ap length spelled, length-append (escaped_bytes 34 decoded.0) rest, ap length last) in
    UnquotesText.none (not_quoted-longer _ front is decoded.0 rest spelled ends after last _ at (search rules)) refl (search (rules, decoded.3))
    (stops-longer _ front is decoded.0 rest spelled ends after last _ at)

pub returns-then-decoded-buffer : goal.returns-then-decoded-buffer
returns-then-decoded-buffer c =
    let front = c.text_at_front-front.result.now in
    let is = c.text_at_front-front.ensures in
    let decoded = c.decode-decoded.ensures.decoded in
    let rest = c.decode-decoded.result.rest.now in
    let after = c.in-Some-strip_byte.after.now in
    let spelled = strip_found (34 ∷ []) front c.in-Some.inside.now (sym c.in-Some.ensures) ∙ ap (λ t. 34 ∷ t) decoded.1 in
    let ends = c.decode-decoded.ensures.ends in
    let last = strip_found (34 ∷ []) rest after (sym c.in-Some-strip_byte.ensures) in
    let at : length front - length after ≡ 2 + length (escaped_bytes 34 decoded.0)
    = omega (arith, ap length spelled, length-append (escaped_bytes 34 decoded.0) rest, ap length last) in
    UnquotesText.text decoded.0 (done_utf8 _ front is decoded.0 rest spelled ends)
    (quoted_is _ front is decoded.0 rest spelled ends after last _ at (search rules))
    (put_cut _ decoded.0 _ decoded.3 _ (as_reported _ _ decoded.2 (search rules)) (search (rules, decoded.2, decoded.3.same_length)))

pub returns : goal.returns
returns c =
    let front = c.text_at_front-front.result.now in
    let is = c.text_at_front-front.ensures in
    let decoded = c.decode-decoded.ensures.decoded in
    let rest = c.decode-decoded.result.rest.now in
    let after = c.in-Some-strip_byte.after.now in
    let spelled = strip_found (34 ∷ []) front c.in-Some.inside.now (sym c.in-Some.ensures) ∙ ap (λ t. 34 ∷ t) decoded.1 in
    let ends = c.decode-decoded.ensures.ends in
    let last = strip_found (34 ∷ []) rest after (sym c.in-Some-strip_byte.ensures) in
    let at : length front - length after ≡ 2 + length (escaped_bytes 34 decoded.0)
    = omega (arith, ap length spelled, length-append (escaped_bytes 34 decoded.0) rest, ap length last) in
    UnquotesText.text decoded.0 (done_utf8 _ front is decoded.0 rest spelled ends)
    (quoted_is _ front is decoded.0 rest spelled ends after last _ at (search rules))
    (put_whole _ decoded.0 _ decoded.3 _ (search (rules, decoded.2)) _ (as_reported _ _ decoded.2 (search rules)) (search (rules, decoded.2, decoded.3.same_length)))
