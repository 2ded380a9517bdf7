use Rattle.std.proofs.Common.{◌≡◌, rules, refl, ap, sym, ◌∙◌, [], ◌∷◌, ◌++◌, ◌+◌, ◌-◌, length, length-append, arith}
use Rattle.std.specs.Str.{encode_utf8_all}
use Rattle.ufmt_grammar.proofs.Parsing.{strip_found}
use Rattle.ufmt_c.specs.DebugQuotes.{UnquotesDebugText}
use Rattle.ufmt_c.proofs.Puts.{as_reported, put_cut, put_whole}
use Rattle.ufmt_c.proofs.Unquoting.{no_front}
use Rattle.ufmt_c.proofs.UnquotingDebug.{not_quoted-longer, not_quoted-misspelled, not_quoted-no_mark, quoted_is, stops-longer, stops-misspelled, stops-no_mark}
use Rattle.ufmt_c.proofs.debug_quotes.ufmt_unquote_debug.Goals as goal

pub returns-in_default : goal.returns-in_default
returns-in_default c =
    let front = c.text_at_front-front.result.now in
    let none = no_front front c.in_default.ensures in
    let is = c.text_at_front-front.ensures in
    UnquotesDebugText.none (not_quoted-no_mark _ front is none) refl (search rules) (stops-no_mark _ front is none)

pub returns-in_default-strip_byte : goal.returns-in_default-strip_byte
returns-in_default-strip_byte c =
    let front = c.text_at_front-front.result.now in
    let is = c.text_at_front-front.ensures in
    let (cs, done, decoded, spelled, counted, put) = c.decode-decoded.ensures.decoded in
    let rest = c.decode-decoded.result.rest.now in
    let begun = strip_found (34 ∷ []) front c.in-Some.inside.now (sym c.in-Some.ensures) ∙ ap (λ t. 34 ∷ t) decoded in
    let ends = c.decode-decoded.ensures.ends in
    let none = no_front rest c.in_default-strip_byte.ensures in
    let at : length front - length rest ≡ 1 + length done = omega (arith, ap length begun, length-append done rest) in
    UnquotesDebugText.none (not_quoted-misspelled _ front is cs done rest begun spelled ends none _ at) refl (search (rules, put))
    (stops-misspelled _ front is cs done rest begun spelled ends none _ at)

pub returns-then-end-input : goal.returns-then-end-input
returns-then-end-input c =
    let front = c.text_at_front-front.result.now in
    let is = c.text_at_front-front.ensures in
    let (cs, done, decoded, spelled, counted, put) = c.decode-decoded.ensures.decoded in
    let rest = c.decode-decoded.result.rest.now in
    let after = c.in-Some-strip_byte.after.now in
    let begun = strip_found (34 ∷ []) front c.in-Some.inside.now (sym c.in-Some.ensures) ∙ ap (λ t. 34 ∷ t) decoded in
    let ends = c.decode-decoded.ensures.ends in
    let last = strip_found (34 ∷ []) rest after (sym c.in-Some-strip_byte.ensures) in
    let at : length front - length after ≡ 2 + length done = omega (arith, ap length begun, length-append done rest, ap length last) in
    UnquotesDebugText.none (not_quoted-longer _ front is cs done rest begun spelled ends after last _ at (search rules)) refl (search (rules, put))
    (stops-longer _ front is cs done rest begun spelled ends after last _ at)

pub returns-then-decoded-buffer : goal.returns-then-decoded-buffer
returns-then-decoded-buffer c =
    let front = c.text_at_front-front.result.now in
    let is = c.text_at_front-front.ensures in
    let (cs, done, decoded, spelled, counted, put) = c.decode-decoded.ensures.decoded in
    let rest = c.decode-decoded.result.rest.now in
    let after = c.in-Some-strip_byte.after.now in
    let begun = strip_found (34 ∷ []) front c.in-Some.inside.now (sym c.in-Some.ensures) ∙ ap (λ t. 34 ∷ t) decoded in
    let ends = c.decode-decoded.ensures.ends in
    let last = strip_found (34 ∷ []) rest after (sym c.in-Some-strip_byte.ensures) in
    let at : length front - length after ≡ 2 + length done = omega (arith, ap length begun, length-append done rest, ap length last) in
    UnquotesDebugText.text cs (quoted_is _ front is cs done rest begun spelled ends after last _ at (search rules))
    (put_cut _ (encode_utf8_all cs) _ put _ (as_reported _ _ counted (search rules)) (search (rules, counted, put.same_length)))

pub returns : goal.returns
returns c =
    let front = c.text_at_front-front.result.now in
    let is = c.text_at_front-front.ensures in
    let (cs, done, decoded, spelled, counted, put) = c.decode-decoded.ensures.decoded in
    let rest = c.decode-decoded.result.rest.now in
    let after = c.in-Some-strip_byte.after.now in
    let begun = strip_found (34 ∷ []) front c.in-Some.inside.now (sym c.in-Some.ensures) ∙ ap (λ t. 34 ∷ t) decoded in
    let ends = c.decode-decoded.ensures.ends in
    let last = strip_found (34 ∷ []) rest after (sym c.in-Some-strip_byte.ensures) in
    let at : length front - length after ≡ 2 + length done = omega (arith, ap length begun, length-append done rest, ap length last) in
    UnquotesDebugText.text cs (quoted_is _ front is cs done rest begun spelled ends after last _ at (search rules))
    (put_whole _ (encode_utf8_all cs) _ put _ (search (rules, counted)) _ (as_reported _ _ counted (search rules)) (search (rules, counted, put.same_length)))
