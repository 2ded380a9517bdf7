use Rattle.std.proofs.Common.{◌≡◌, refl, sym, ℕ, ◌<◌, List, [], length, None, Some, codes, arith}
use Rattle.ufmt_core.specs.Layout.{frame, inside, lead, new_line}
use Rattle.ufmt_grammar.specs.Reading.{parse_map, read_without_name, strip}
use Rattle.ufmt_core.specs.declared.layout.Count.TheVariants.{Zero}
use Rattle.ufmt_core.specs.declared.layout.Kind.TheVariants.{Unnamed}
use Rattle.ufmt_scan.specs.Private.Level.{entry_of, setting_at, Level}
use Rattle.ufmt_scan.specs.Private.Scanning.{StripsBracket, after, scan_opened, UnnamedFirst}
use Rattle.ufmt_scan.specs.Scan.{events_of}
use Rattle.ufmt_scan.proofs.DocumentParts.{opens_no_quote, steps_as, symbol_is_quoted, symbol_scans, unnamed_scans}
use Rattle.ufmt_scan.proofs.EntrySteps.{strip_shortens}
use Rattle.ufmt_scan.proofs.Scans.{nothing_there, step_refused}
use Rattle.ufmt_scan.proofs.scan.step.begin_without_name.Goals as goal

pub returns-in-Some : goal.returns-in-Some
returns-in-Some g c =
    let bracket = c.in-Some.ensures c.args.level in
    let shorter = bracket.1 in
    steps_as g.S.Sink.took g.S.Sink.stopped c.args.sink.now c.begin_block.new.sink (after c.args.level) _ c.begin_block.result _ (omega (arith, shorter))
    bracket.0 c.begin_block.ensures

pub returns-in_err-emit : goal.returns-in_err-emit
returns-in_err-emit g c =
    let emits = symbol_scans c.args.level c.args.input.now (codes "()") c.in-Some-strip_piece.rest.now (c.in_default.ensures c.args.level).0
    (c.in_default.ensures c.args.level).1 (rw (sym c.in-Some-strip_piece.ensures) refl) in
    step_refused _ (after c.args.level) c.from_residual.result c.from_residual.ensures.1
    (c.in_err-emit.ensures _ (after c.args.level None c.in-Some-strip_piece.rest.now) emits.0)

pub returns-in_ok-emit : goal.returns-in_ok-emit
returns-in_ok-emit g c =
    let emits = symbol_scans c.args.level c.args.input.now (codes "()") c.in-Some-strip_piece.rest.now (c.in_default.ensures c.args.level).0
    (c.in_default.ensures c.args.level).1 (rw (sym c.in-Some-strip_piece.ensures) refl) in
    (c.in_ok-emit.ensures _ _ emits.0, emits.1)

-- the events of a tuple without a name, and what is left of the text
unnamed : (level : Level) (t r : List ℕ) → StripsBracket level t None → None ≡ strip (codes "()") t
    → Some r ≡ strip (lead (frame level.mode Unnamed) (inside (setting_at level)) Zero) t
    → (parse_map events_of (read_without_name level.class (setting_at level) (entry_of level) t) ≡ scan_opened level Unnamed [] r) × (length r < length t)
unnamed level t r bracket empty opening =
    let line = new_line level.mode (inside (setting_at level)).depth in
    let symbol = symbol_is_quoted level.class t None (sym empty) (sym (opens_no_quote level.class line t r (sym opening))) in
    (unnamed_scans level t r bracket.0 bracket.1 symbol (sym opening), strip_shortens 40 line t r (sym opening))

pub returns-in_err-emit-2 : goal.returns-in_err-emit-2
returns-in_err-emit-2 g c =
    let rest = c.in-Some-strip_lead.rest.now in
    let emits = unnamed c.args.level c.args.input.now rest (c.in_default.ensures c.args.level) c.in_default-strip_piece.ensures c.in-Some-strip_lead.ensures in
    step_refused _ (after c.args.level) c.from_residual-in_err-emit-2.result c.from_residual-in_err-emit-2.ensures.1
    (c.in_err-emit-2.ensures _ (after c.args.level (Some UnnamedFirst) rest) emits.0)

pub returns-in_ok-emit-2 : goal.returns-in_ok-emit-2
returns-in_ok-emit-2 g c =
    let rest = c.in-Some-strip_lead.rest.now in
    let emits = unnamed c.args.level c.args.input.now rest (c.in_default.ensures c.args.level) c.in_default-strip_piece.ensures c.in-Some-strip_lead.ensures in
    (c.in_ok-emit-2.ensures _ _ emits.0, emits.1)

pub returns-in_err-emit-3 : goal.returns-in_err-emit-3
returns-in_err-emit-3 g c =
    let text = c.in-Some-split_quotes.text.now in
    let rest = c.in-Some-split_quotes.rest.now in
    let symbol = symbol_is_quoted c.args.level.class c.args.input.now (Some (text, rest)) (sym c.in_default-strip_piece.ensures) c.in-Some-split_quotes.ensures in
    let emits = symbol_scans c.args.level c.args.input.now text rest (c.in_default.ensures c.args.level).0 (c.in_default.ensures c.args.level).1 symbol in
    step_refused _ (after c.args.level) c.from_residual-in_err-emit-3.result c.from_residual-in_err-emit-3.ensures.1
    (c.in_err-emit-3.ensures _ (after c.args.level None rest) emits.0)

pub returns-in_ok-emit-3 : goal.returns-in_ok-emit-3
returns-in_ok-emit-3 g c =
    let text = c.in-Some-split_quotes.text.now in
    let rest = c.in-Some-split_quotes.rest.now in
    let symbol = symbol_is_quoted c.args.level.class c.args.input.now (Some (text, rest)) (sym c.in_default-strip_piece.ensures) c.in-Some-split_quotes.ensures in
    let emits = symbol_scans c.args.level c.args.input.now text rest (c.in_default.ensures c.args.level).0 (c.in_default.ensures c.args.level).1 symbol in
    (c.in_ok-emit-3.ensures _ _ emits.0, emits.1)

pub returns-in_default-split_quotes : goal.returns-in_default-split_quotes
returns-in_default-split_quotes g c =
    let symbol = symbol_is_quoted c.args.level.class c.args.input.now None (sym c.in_default-strip_piece.ensures) c.in_default-split_quotes.ensures in
    (nothing_there _ (rw ((c.in_default.ensures c.args.level).0, (c.in_default.ensures c.args.level).1, symbol, sym c.in_default-strip_lead.ensures) refl), tt)
