use Rattle.std.proofs.Common.{ap, map, rules, ◌∙◌, ◌++◌, sym}
use Rattle.std.proofs.lemmas.List.{map-append, nil_from_length}
use Rattle.std.specs.Slice.Iter.{chunks_rest}
use Rattle.ufmt.specs.Dump.{shown_byte}
use Rattle.ufmt.proofs.LeftToWrite.{LeavesText-fails, LeavesText-next, LeavesText-none, Writes-err}
use Rattle.ufmt.proofs.dump.write_shown.Goals as goal

pub loop-part-preserved : goal.loop-part-preserved
loop-part-preserved g c =
    let steps = c.in-Some.ensures.steps in
    let rest = map shown_byte (chunks_rest c.next.new.self) in record {
      can_next = search rules;
      is_finite = tt;
      size = steps.0 ∙ c.loop-part.invariant.size;
      left = LeavesText-next c.shown_text.result.now rest c.loop-part.invariant.left
          (ap (map shown_byte) steps.1.0 ∙ map-append shown_byte c.in-Some.part.now _ ∙ ap (λ t. t ++ rest) (sym c.shown_text.ensures)) c.in_ok-write_str.ensures;
    }

pub returns-in_err-write_str : goal.returns-in_err-write_str
returns-in_err-write_str g c =
    let rest = map shown_byte (chunks_rest c.next.new.self) in
    Writes-err _ c.from_residual.ensures.0
    (LeavesText-fails c.shown_text.result.now rest c.loop-part.invariant.left
    (ap (map shown_byte) c.in-Some.ensures.steps.1.0 ∙ map-append shown_byte c.in-Some.part.now _ ∙ ap (λ t. t ++ rest) (sym c.shown_text.ensures)) c.in_err-write_str.ensures)

pub returns : goal.returns
returns g c = LeavesText-none c.loop-part.invariant.left (ap (map shown_byte) (nil_from_length _ c.in-None.ensures.steps.1.0))
