use Rattle.std.proofs.Common.{sym, []}
use Rattle.ufmt_scan.proofs.DocumentParts.{braces_scans, list_scans}
use Rattle.ufmt_scan.proofs.EntrySteps.{strip_shortens}
use Rattle.ufmt_scan.proofs.scan.step.strip_bracket.Goals as goal

pub returns-in-Some : goal.returns-in-Some
returns-in-Some c = λ level.
    let rest = c.in-Some.rest.now in
    (rw (sym c.in-Some.ensures) (list_scans level rest), strip_shortens 91 [] c.args.input.now rest (sym c.in-Some.ensures))

pub returns-in_ok-strip_piece : goal.returns-in_ok-strip_piece
returns-in_ok-strip_piece c = λ level.
    let rest = c.in_ok-strip_piece.field-0.now in
    (rw (sym c.in_default.ensures, sym c.in_ok-strip_piece.ensures) (braces_scans level rest), strip_shortens 123 [] c.args.input.now rest (sym c.in_ok-strip_piece.ensures))
