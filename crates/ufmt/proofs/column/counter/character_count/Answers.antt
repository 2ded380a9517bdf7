use Rattle.std.proofs.Common.{sym, ◌∙◌, arith}
use Rattle.ufmt.proofs.Columns.{char_count-more, char_count-nil}
use Rattle.ufmt.proofs.column.counter.character_count.Goals as goal
use Rattle.ufmt.proofs.column.counter.character_count.Goals.{then-begins_character, else-begins_character}

pub loop-byte-init : goal.loop-byte-init
loop-byte-init c = (omega arith, sym char_count-nil)

pub loop-byte-preserved : goal.loop-byte-preserved
loop-byte-preserved c =
    let more = char_count-more c.args.text.now c.loop-byte.byte-index c.loop-byte-test.true in
    let test = sym c.begins_character.ensures in
    elim c.if-begins_character.branch [
      | then-begins_character w ↦ let one = rw (test ∙ w.if-begins_character.true) at more in (omega arith, omega arith)
      | else-begins_character w ↦ let none = rw (test ∙ w.if-begins_character.false) at more in (omega arith, omega arith)
    ]
