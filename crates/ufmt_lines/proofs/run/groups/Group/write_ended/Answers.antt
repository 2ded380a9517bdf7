use Rattle.std.proofs.Common.{◌≡◌, refl, ◌∙◌, ◌++◌, rules, subst, sym, []}
use Rattle.std.proofs.lemmas.Result.{on_ok_weaker}
use Rattle.ufmt_lines.specs.Private.Group.{Gathers, IsReading, conversion_of, gathered, group_bytes, mode_of}
use Rattle.ufmt_lines.proofs.Fronts.{all_written, lines_more, nothing_gathered, nothing_written, written_if_full, written_in_part}
use Rattle.ufmt_lines.proofs.LinesTogether.{no_length}
use Rattle.ufmt_lines.proofs.Outcomes.{holds_of_error}
use Rattle.ufmt_lines.proofs.Readings.{reading_more, reading_same}
use Rattle.ufmt_lines.proofs.run.groups.Group.write_ended.Goals as goal

pub ended-init : goal.ended-init
ended-init g c = record {
  works = c.requires.works;
  writes_on = refl;
  conversion = refl;
  reading = c.requires.reading;
  whole = c.split_last_line.ensures.whole;
  middle = group_bytes c.args.self.now ++ c.args.bytes.now;
  so_far = nothing_written (conversion_of c.args.self.now) (group_bytes c.args.self.now ++ c.args.bytes.now) _;
  gathers = subst (λ t. Gathers (conversion_of c.args.self.now) (group_bytes c.args.self.now ++ c.args.bytes.now) (group_bytes c.args.self.now ++ t) [] (gathered c.args.self.now)) c.split_last_line.ensures.text
      (subst (Gathers (conversion_of c.args.self.now) _ _ []) (sym c.requires.none) (nothing_gathered (conversion_of c.args.self.now) (group_bytes c.args.self.now ++ c.args.bytes.now) []));
}

pub ended-preserved : goal.ended-preserved
ended-preserved g c =
    let ended = c.in_ok-lines.ensures in let full = c.in_ok-write_if_full.ensures in let so_far = c.ended.invariant in
    let line = lines_more (conversion_of c.args.self.now) so_far.middle (group_bytes c.ended.self) c.ended.lines.now (group_bytes c.end_lines.new.self) c.in_ok-lines.lines.now c.split_last_line.result.1.now [] _ _ so_far.gathers (rw so_far.conversion at ended.ok) in
    let all = written_if_full (conversion_of c.args.self.now) _ so_far.middle _ _ _ _ _ _ so_far.so_far line full.ok in
    record {
      works = search rules;
      writes_on = search rules;
      conversion = c.write_if_full.ensures.conversion ∙ c.end_lines.ensures.conversion ∙ so_far.conversion;
      reading = reading_same (mode_of c.args.self.now) _ _ c.write_if_full.ensures.same c.write_if_full.ensures.line (rw so_far.conversion at ended.reading);
      whole = ended.whole;
      middle = all.0;
      so_far = all.1;
      gathers = rw c.write_if_full.ensures.same all.2;
    }

pub end_lines-requires-clause-reading : goal.end_lines-requires-clause-reading
end_lines-requires-clause-reading g c = subst (λ conversion. IsReading conversion.to c.ended.self) (sym c.ended.invariant.conversion) c.ended.invariant.reading

pub returns-in_err-write_if_full-clause-cannot_write : goal.returns-in_err-write_if_full-clause-cannot_write
returns-in_err-write_if_full-clause-cannot_write g c = λ failed.
    let so_far = c.ended.invariant in
    let line = lines_more (conversion_of c.args.self.now) so_far.middle (group_bytes c.ended.self) c.ended.lines.now (group_bytes c.end_lines.new.self) c.in_ok-lines.lines.now c.split_last_line.result.1.now [] _ _ so_far.gathers (rw so_far.conversion at c.in_ok-lines.ensures.ok) in
    written_in_part (conversion_of c.args.self.now) _ so_far.middle _ _ _ _ _ so_far.so_far line c.in_err-write_if_full.ensures.cannot_write

pub returns-clause-ok : goal.returns-clause-ok
returns-clause-ok g c =
    let so_far = c.ended.invariant in
    let all : c.ended.lines.now ≡ [] = no_length c.ended.lines.now (sym c.is_empty.ensures ∙ c.ended-test.false) in
    let gathers = subst (λ t. Gathers (conversion_of c.args.self.now) so_far.middle (group_bytes c.ended.self ++ (t ++ c.split_last_line.result.1.now)) [] (gathered c.ended.self)) all so_far.gathers in
    rw (c.write_gathered.ensures.same, c.in_ok-extend_from_slice.ensures.items)
    (on_ok_weaker c.write_gathered.result (λ written. all_written (conversion_of c.args.self.now) _ so_far.middle _ _ _ _ _ so_far.so_far gathers written) c.write_gathered.ensures.ok)

pub returns-clause-reading : goal.returns-clause-reading
returns-clause-reading g c =
    on_ok_weaker c.write_gathered.result (λ written.
    reading_more (mode_of c.args.self.now) c.ended.self c.write_gathered.new.self c.split_last_line.result.1.now (c.write_gathered.ensures.same ∙ c.in_ok-extend_from_slice.ensures.items)
    c.write_gathered.ensures.line c.split_last_line.ensures.last c.ended.invariant.reading) c.write_gathered.ensures.ok

pub returns-clause-cannot_write : goal.returns-clause-cannot_write
returns-clause-cannot_write g c = λ failed.
    let so_far = c.ended.invariant in
    written_in_part (conversion_of c.args.self.now) _ so_far.middle _ _ _ _ _ so_far.so_far so_far.gathers (holds_of_error c.write_gathered.result _ _ failed c.write_gathered.ensures.cannot_write)
