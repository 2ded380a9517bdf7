use Rattle.std.proofs.Common.{◌∷◌, [], append-nil, append_assoc, refl}
use Rattle.ufmt_scan.proofs.Spelled.{quote_ends, same_bytes, spelled_shorter}
use Rattle.ufmt_doc.proofs.Unquoted.{decoded_first}
use Rattle.ufmt_doc.proofs.doc.decoded_bytes.Goals as goal

pub bytes-init : goal.bytes-init
bytes-init c = λ bs is. (bs, cc, is)

pub bytes-smaller : goal.bytes-smaller
bytes-smaller c = spelled_shorter c.args.quote c.in-Some.byte _ c.in-Some.after.now c.in-Some.ensures.some

pub bytes-preserved : goal.bytes-preserved
bytes-preserved c = λ bs is.
    let left = c.bytes.invariant bs is in
    let next = decoded_first c.args.quote c.requires c.in-Some.byte c.in-Some.after.now _ left.0 c.in-Some.ensures.some left.2 in
    let joined = append_assoc c.bytes.bytes.items (c.in-Some.byte ∷ []) next.0 in
    (next.0, cc (c.in_ok-push.ensures.items), next.2)

pub returns : goal.returns
returns c = λ bs is.
    let left = c.bytes.invariant bs is in
    let none = same_bytes c.args.quote c.requires [] left.0 _ _ (c.in_default.ensures.none refl) (quote_ends c.args.quote c.requires []) left.2 in
    let whole = append-nil c.bytes.bytes.items in cc
