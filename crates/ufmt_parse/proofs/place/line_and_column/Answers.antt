use Rattle.std.proofs.Common.{sym, ◌∙◌, take, arith}
use Rattle.ufmt_parse.proofs.Places.{place-none, place-feed, place-character, place-within_character}
use Rattle.ufmt_parse.proofs.place.line_and_column.Goals as goal
use Rattle.ufmt_parse.proofs.place.line_and_column.Goals.{then-byte-eq10, else-byte-eq10+then-begins_character, else-byte-eq10+else-begins_character}

pub loop-byte-init : goal.loop-byte-init
loop-byte-init c = record { line = omega arith; column = omega arith; place = place-none }

pub loop-byte-preserved : goal.loop-byte-preserved
loop-byte-preserved c =
    let before = take c.min.result c.args.text.now in
    let i = c.loop-byte.byte-index in
    let within = c.loop-byte-test.true in
    let place = c.loop-byte.invariant.place in
    elim c.if-byte-eq10.branch [
      | then-byte-eq10 w ↦ record {
        line = omega arith;
        column = omega arith;
        place = rw (w.line-is, w.column-is) (place-feed before i within _ _ place w.if-byte-eq10.true);
      }
      | else-byte-eq10+then-begins_character w ↦ record {
        line = omega arith;
        column = omega arith;
        place = rw (w.line-is, w.column-is)
            (place-character before i within _ _ place w.if-byte-eq10.false (sym w.begins_character.ensures ∙ w.if-begins_character.true));
      }
      | else-byte-eq10+else-begins_character w ↦ record {
        line = omega arith;
        column = omega arith;
        place = rw (w.line-is, w.column-is)
            (place-within_character before i within _ _ place w.if-byte-eq10.false (sym w.begins_character.ensures ∙ w.if-begins_character.false));
      }
    ]
