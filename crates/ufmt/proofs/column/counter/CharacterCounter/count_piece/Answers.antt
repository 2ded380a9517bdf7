use Rattle.std.proofs.Common.{◌++◌, ◌∙◌, ap, arith}
use Rattle.std.specs.Fmt.{char_count}
use Rattle.ufmt.proofs.Columns.{char_count-append}
use Rattle.ufmt.proofs.column.counter.CharacterCounter.count_piece.Goals as goal

pub invariant_of-self : goal.invariant_of-self
invariant_of-self c =
    let old = c.args.self.now in
    let piece = c.args.s.now in
    let counted = c.character_count.ensures ∙ ap char_count c.as_bytes.ensures.value in
    let both = ap char_count (c.and-self.ensures ∙ ap (λ t. old.written.bytes ++ t) c.as_bytes-2.ensures.value) ∙ char_count-append old.written.bytes piece in
    record { counted = omega (arith, old.counted, counted, both, c.saturating_add-count.ensures, c.min-self.ensures) }
