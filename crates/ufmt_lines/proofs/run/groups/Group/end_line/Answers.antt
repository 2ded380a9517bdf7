use Rattle.std.proofs.Common.{◌∙◌, ◌++◌, ap, refl, sym, length}
use Rattle.std.proofs.lemmas.List.{take_rest}
use Rattle.ufmt_lines.specs.Private.Group.{conversion_of, gathered, group_bytes, mode_of}
use Rattle.ufmt_lines.proofs.Fronts.{nothing_gathered}
use Rattle.ufmt_lines.proofs.Outcomes.{on_ok_both}
use Rattle.ufmt_lines.proofs.Readings.{group_gathered, line_ended, line_ends_group, line_open, reading_lines, rest_read}
use Rattle.ufmt_lines.proofs.run.groups.Group.end_line.Goals as goal

pub end_of_group-requires : goal.end_of_group-requires
end_of_group-requires c =
    rw (take_rest, c.deref.ensures.value, c.in_ok-extend_from_slice.ensures.items)
    (line_ended (mode_of c.args.self.now) c.args.self.now c.args.bytes.now c.requires.reading c.requires.line)

pub returns-in_default-clause-reading : goal.returns-in_default-clause-reading
returns-in_default-clause-reading c =
    let found = rw (take_rest, c.deref.ensures.value, c.in_ok-extend_from_slice.ensures.items) at c.in_default.ensures in
    reading_lines (mode_of c.args.self.now) c.begin_line.new.self (group_bytes c.args.self.now ++ c.args.bytes.now) (c.begin_line.ensures.bytes ∙ c.in_ok-extend_from_slice.ensures.items)
    (c.begin_line.ensures.line ∙ ap length (sym c.begin_line.ensures.bytes)) (line_open (mode_of c.args.self.now) c.args.self.now c.args.bytes.now c.requires.reading c.requires.line _ refl found)

pub returns-in_default-clause-ok : goal.returns-in_default-clause-ok
returns-in_default-clause-ok c =
    rw (c.begin_line.ensures.bytes, c.in_ok-extend_from_slice.ensures.items, c.begin_line.ensures.same)
    (nothing_gathered (conversion_of c.args.self.now) (group_bytes c.args.self.now ++ c.args.bytes.now) (gathered c.args.self.now))

pub returns-clause-reading : goal.returns-clause-reading
returns-clause-reading c =
    let found = rw (take_rest, c.deref.ensures.value, c.in_ok-extend_from_slice.ensures.items) at c.in-Some.ensures in
    let ends = line_ends_group (mode_of c.args.self.now) c.args.self.now c.args.bytes.now c.requires.reading c.requires.line _ c.in-Some.size refl found in
    on_ok_both c.end_group.result (λ bytes line. rest_read (conversion_of c.args.self.now) c.args.self.now c.args.bytes.now c.requires.reading c.requires.line c.in-Some.size ends c.end_group.new.self bytes line)
    (rw c.in_ok-extend_from_slice.ensures.items at c.end_group.ensures.bytes) c.end_group.ensures.line

pub returns-clause-ok : goal.returns-clause-ok
returns-clause-ok c =
    let found = rw (take_rest, c.deref.ensures.value, c.in_ok-extend_from_slice.ensures.items) at c.in-Some.ensures in
    let ends = line_ends_group (mode_of c.args.self.now) c.args.self.now c.args.bytes.now c.requires.reading c.requires.line _ c.in-Some.size refl found in
    on_ok_both c.end_group.result (λ bytes more. group_gathered (conversion_of c.args.self.now) c.args.self.now c.args.bytes.now c.requires.reading c.requires.line c.in-Some.size ends _ _ _ bytes more)
    (rw c.in_ok-extend_from_slice.ensures.items at c.end_group.ensures.bytes) (rw c.in_ok-extend_from_slice.ensures.items at c.end_group.ensures.ok)
