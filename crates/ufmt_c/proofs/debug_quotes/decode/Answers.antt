use Rattle.std.proofs.Common.{rules, ◌≡◌, refl, sym, ap, subst, ◌∙◌, ℕ, ◌+◌, ◌≤◌, List, [], ◌∷◌, ◌++◌, length, append_assoc, append-nil, length-append, encode_utf8, arith}
use Rattle.std.specs.Str.{encode_utf8_all}
use Rattle.std.proofs.lemmas.Str.{encodes-append}
use Rattle.ufmt_c.specs.Calls.{HasPut}
use Rattle.ufmt_c.proofs.Puts.{as_reported, put_nothing}
use Rattle.ufmt_c.proofs.Spellings.{none_spelled, spelled_more, spelling_longer, spellings_longer}
use Rattle.ufmt_c.proofs.debug_quotes.decode.Goals as goal

pub characters-init : goal.characters-init
characters-init c = ([], [], refl, none_spelled, refl, put_nothing c.args.buffer.now)

pub overflow_add-length : goal.overflow_add-length
overflow_add-length c =
    let (cs, text, is, spelled, counted, written) = c.characters.invariant in
    let (scalar, found) = c.in-Some.ensures in
    let (front, first, follows) = found in
    let before : c.characters.length ≤ length text = omega (arith, counted, spellings_longer cs text spelled) in
    let bytes = ap length (c.as_bytes-bytes.ensures.value ∙ c.encode_utf8.ensures.value) in
    let one : length c.as_bytes-bytes.result.now ≤ length front = omega (arith, bytes, spelling_longer c.in-Some.character front first) in
    let whole : length c.args.input.now ≡ length text + (length front + length c.in-Some.after.now) =
    ap length is ∙ length-append text c.characters.rest.now ∙ ap (λ n. length text + n) (ap length follows ∙ length-append front c.in-Some.after.now) in
    let within : c.characters.length + length c.as_bytes-bytes.result.now ≤ length c.args.input.now = omega (arith, before, one, whole) in
    search (rules, within)

pub characters-preserved : goal.characters-preserved
characters-preserved c =
    let (cs, text, is, spelled, counted, written) = c.characters.invariant in
    let (scalar, found) = c.in-Some.ensures in
    let (front, first, follows) = found in
    let character = c.in-Some.character in
    let bytes = c.as_bytes-bytes.ensures.value ∙ c.encode_utf8.ensures.value in
    let all : encode_utf8_all (cs ++ (character ∷ [])) ≡ encode_utf8_all cs ++ encode_utf8 character =
    encodes-append cs (character ∷ []) ∙ ap (λ e. encode_utf8_all cs ++ e) (append-nil (encode_utf8 character)) in
    let put = c.put.ensures c.args.buffer.now (encode_utf8_all cs) (as_reported _ _ counted (search rules)) written in (
      cs ++ (character ∷ []),
      text ++ front,
      is ∙ ap (λ t. text ++ t) follows ∙ sym (append_assoc text front c.in-Some.after.now),
      spelled_more cs text character front spelled scalar first,
      rw counted (sym (ap length all ∙ length-append (encode_utf8_all cs) (encode_utf8 character) ∙ ap (λ b. length (encode_utf8_all cs) + length b) (sym bytes))),
      subst (λ t. HasPut c.args.buffer.now t c.put.new.buffer) (ap (λ b. encode_utf8_all cs ++ b) bytes ∙ sym all) put,
    )
