use Rattle.std.proofs.Common.{rules, ap, ◌∙◌, ◌≡◌, ◌⊎◌, inl, inr, ◌+◌, ◌-◌, ◌≤◌, ◌++◌, take, length, arith}
use Rattle.std.proofs.Math.Nat.{min-eq_left, min-eq_right, min-le_left, min-le_right}
use Rattle.std.proofs.lemmas.Bool.{cases_lt}
use Rattle.std.proofs.lemmas.List.{length-take-le}
use Rattle.std.proofs.lemmas.Slice.{drop-put_mid, take-put_mid}
use Rattle.ufmt_c.proofs.Puts.{put_some, reported_is}
use Rattle.ufmt_c.proofs.filler.put.Goals as goal

pub returns-then-count-buffer : goal.returns-then-count-buffer
returns-then-count-buffer c old text counted h =
    let count = c.args.count in
    let k = c.min-taken.result in
    let buffer = c.args.buffer.now in
    let bytes = c.args.bytes.now in
    let is = reported_is count (length text) counted (search rules) in
    let copied : c.copy.new.target ≡ take k bytes = c.copy.ensures in
    let least = c.min-taken.ensures in
    let within : k ≤ length bytes = omega (arith, least, min-le_left (length bytes) (length buffer - count)) in
    let room : count + k ≤ length buffer = omega (arith, least, min-le_right (length bytes) (length buffer - count), c.if-count-buffer.true) in
    let len = ap length copied ∙ length-take-le k bytes within in
    let which : (k ≡ length bytes) ⊎ (count + k ≡ length buffer) = elim (cases_lt (length bytes) (length buffer - count)) [
      | inl low ↦ inl (least ∙ min-eq_left (omega arith))
      | inr high ↦ inr (omega (arith, least ∙ min-eq_right high, c.if-count-buffer.true))
    ] in
    put_some old text buffer bytes h count k _ is room within
    (take-put_mid count (count + k - count) buffer c.copy.new.target (count + k) (omega (arith, len)) (omega arith) ∙ ap (λ piece. take count buffer ++ piece) copied)
    (drop-put_mid count (count + k - count) buffer c.copy.new.target (count + k) (omega arith) (omega arith) (omega (arith, len)))
    (search rules) which
