use Rattle.std.proofs.Common.{◌∙◌, ap, sym, arith}
use Rattle.ufmt_grammar.specs.Reading.{read_name}
use Rattle.ufmt_scan.specs.Private.Scanning.{entries, level_at, scan_turn}
use Rattle.ufmt_core.specs.declared.layout.Mode.TheVariants.{Plain}
use Rattle.ufmt_scan.proofs.DocumentParts.{field_name_scans}
use Rattle.ufmt_scan.proofs.Scans.{refused}
use Rattle.ufmt_scan.proofs.scan.step.field_name.Goals as goal

pub returns-in_err-emit-clause-emitted : goal.returns-in_err-emit-clause-emitted
returns-in_err-emit-clause-emitted g c = λ level same.
    let name = ap (λ class. read_name class c.args.input.now) same ∙ sym c.in-Some.ensures in
    let emits = field_name_scans level c.args.input.now c.in-Some.name.now c.in-Some.rest.now c.in-Some-strip_piece.rest.now name (sym c.in-Some-strip_piece.ensures) in
    refused (λ rest. scan_turn (entries level) rest.now) c.from_residual.result c.from_residual.ensures.1
    (c.in_err-emit.ensures _ (scan_turn (entries level) c.in-Some-strip_piece.rest.now) emits.0)

pub returns-clause-within : goal.returns-clause-within
returns-clause-within g c =
    let shorter = (field_name_scans (level_at c.args.class Plain 0) c.args.input.now c.in-Some.name.now c.in-Some.rest.now c.in-Some-strip_piece.rest.now
    (sym c.in-Some.ensures) (sym c.in-Some-strip_piece.ensures)).1 in
    omega (arith, shorter)
