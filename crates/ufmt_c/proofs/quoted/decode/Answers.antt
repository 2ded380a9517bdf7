use Rattle.std.proofs.Common.{rules, ap, length, length-append, [], ◌∷◌, ◌++◌, ◌+◌, ◌∙◌, sym}
use Rattle.ufmt.specs.Quoted.{escaped_bytes}
use Rattle.ufmt_grammar.proofs.QuotedComplete.{length-escaped_bytes}
use Rattle.ufmt_c.proofs.Puts.{as_reported}
use Rattle.ufmt_c.proofs.Unquoting.{decoded_more}
use Rattle.ufmt_c.proofs.quoted.decode.Goals as goal

pub overflow_add-length : goal.overflow_add-length
overflow_add-length c =
    let is = c.bytes.invariant in
    let whole = ap length is.1 ∙ length-append (escaped_bytes 34 is.0) c.bytes.rest.now in
    search (rules, is.2, whole, length-escaped_bytes 34 is.0)

pub bytes-preserved : goal.bytes-preserved
bytes-preserved c =
    let is = c.bytes.invariant in
    let more = decoded_more c.in-Some.byte is.0 _ _ c.in-Some.after.now is.1 c.in-Some.ensures.some in
    let counted = ap (λ n. n + 1) is.2 ∙ sym (length-append is.0 (c.in-Some.byte ∷ [])) in
    (is.0 ++ (c.in-Some.byte ∷ []), more, counted, c.put.ensures c.args.buffer.now is.0 (as_reported _ _ is.2 (search rules)) is.3)
