use Rattle.std.proofs.Common.{◌≡◌, ◌∙◌, refl, ap, sym, ℕ, ◌<◌, List, [], ◌∷◌, ◌++◌, Option, Some, None, option_and_then, arith}
use Rattle.ufmt_core.specs.Layout.{ending, frame, inside, line_start, next, later_lead, trail}
use Rattle.ufmt_grammar.specs.Reading.{choose, strip}
use Rattle.ufmt_grammar.proofs.Parsing.{strip-append}
use Rattle.ufmt_grammar.proofs.ReadingTurns.{strip_within}
use Rattle.ufmt_core.specs.declared.layout.Mode.{Mode}
use Rattle.ufmt_core.specs.declared.layout.Mode.TheVariants.{Plain, Pretty}
use Rattle.ufmt_core.specs.declared.layout.Setting.{Setting}
use Rattle.ufmt_scan.specs.Scan.{Close, Dots, Next}
use Rattle.ufmt_scan.specs.Depth.{depth_in}
use Rattle.ufmt_scan.specs.Private.Level.{setting_at, Level}
use Rattle.ufmt_scan.specs.Private.Scanning.{after, earlier, kind_of, prefixed, scan_further, scan_rest, turn_of, Stage}
use Rattle.ufmt_scan.proofs.DocumentParts.{later_continues, steps_as, turn_dots, turn_takes}
use Rattle.ufmt_scan.proofs.EntrySteps.{ending_stripped}
use Rattle.ufmt_scan.proofs.Scans.{nothing_there, step_refused}
use Rattle.ufmt_scan.proofs.ScanTurns.{follows_scans, continued}
use Rattle.ufmt_scan.proofs.scan.step.after_entry.Goals as goal

-- if fewer than 255 blocks are open, the depth is below 255
few : (mode : Mode) (depth : ℕ) → depth < 255 → depth_in mode depth < 255
few Plain depth h = omega arith
few Pretty depth h = h

module _ (level : Level) (at : Stage) where
  abbrev start : List ℕ
  start = line_start level.mode (setting_at level).depth

  abbrev closing : List ℕ
  closing = (frame level.mode (kind_of at)).closing (next (earlier at))

  -- after the line's start, another entry comes, or the block ends
  follows : (t piece between : List ℕ) (line : Setting) (o : Option (List ℕ)) → piece ≡ trail level.mode → line ≡ setting_at level
      → start ++ between ≡ later_lead level.mode (inside (setting_at level)).depth → o ≡ strip (piece ++ line_start line.mode line.depth) t
      → scan_rest (turn_of level at) level (kind_of at) (next (earlier at)) t
      ≡ option_and_then (λ w. continued (turn_of level at) level (kind_of at) (earlier at) (strip between w) (strip closing w)) o
  follows t piece between line o piece_is line_is apart h =
      follows_scans (turn_of level at) level (kind_of at) (earlier at) t (turn_takes level at) (turn_dots level at) ∙ by_trail (strip (trail level.mode) t)
      ∙ ap (λ e. option_and_then (λ w. continued (turn_of level at) level (kind_of at) (earlier at) (strip between w) (strip closing w)) e)
      (sym (h ∙ rw (piece_is, line_is) (strip-append (trail level.mode) start t)))
    where
      by_line : (e : Option (List ℕ))
          → continued (turn_of level at) level (kind_of at) (earlier at) (option_and_then (strip between) e) (option_and_then (strip closing) e)
          ≡ option_and_then (λ w. continued (turn_of level at) level (kind_of at) (earlier at) (strip between w) (strip closing w)) e
      by_line None = refl
      by_line (Some w) = refl

      by_trail : (e : Option (List ℕ)) → option_and_then (λ v. continued (turn_of level at) level (kind_of at) (earlier at)
          (strip (later_lead level.mode (inside (setting_at level)).depth) v) (strip (ending (frame level.mode (kind_of at)) (setting_at level) (next (earlier at))) v)) e
          ≡ option_and_then (λ w. continued (turn_of level at) level (kind_of at) (earlier at) (strip between w) (strip closing w)) (option_and_then (strip start) e)
      by_trail None = refl
      by_trail (Some v) =
          let separates : strip (later_lead level.mode (inside (setting_at level)).depth) v ≡ option_and_then (strip between) (strip start v) =
          ap (λ p. strip p v) (sym apart) ∙ strip-append start between v in
          rw (separates, ending_stripped level (kind_of at) (earlier at) v) (by_line (strip start v))

  -- another entry or the dots come
  another : (t u v piece between : List ℕ) (line : Setting) → piece ≡ trail level.mode → line ≡ setting_at level
      → start ++ between ≡ later_lead level.mode (inside (setting_at level)).depth → Some u ≡ strip (piece ++ line_start line.mode line.depth) t → Some v ≡ strip between u
      → scan_rest (turn_of level at) level (kind_of at) (next (earlier at)) t ≡ scan_further level at v
  another t u v piece between line piece_is line_is apart before comes =
      follows t piece between line (Some u) piece_is line_is apart before
      ∙ rw (sym comes) (ap (λ o. prefixed (Next ∷ []) (choose ((turn_of level at).dots v) (λ w. Some (Dots ∷ [], w)) o)) (sym (later_continues level at v)))

  -- the block ends
  ends : (t u v piece between : List ℕ) (line : Setting) → piece ≡ trail level.mode → line ≡ setting_at level
      → start ++ between ≡ later_lead level.mode (inside (setting_at level)).depth → Some u ≡ strip (piece ++ line_start line.mode line.depth) t → None ≡ strip between u
      → Some v ≡ strip closing u
      → scan_rest (turn_of level at) level (kind_of at) (next (earlier at)) t ≡ prefixed (Close (kind_of at) (next (earlier at)) ∷ []) (after level None v)
  ends t u v piece between line piece_is line_is apart before none closes =
      follows t piece between line (Some u) piece_is line_is apart before ∙ rw (sym none, sym closes) refl

pub returns-in_default : goal.returns-in_default
returns-in_default g c =
    let apart = c.between-rest_of_lead.ensures (setting_at c.args.level).depth (few c.args.level.mode c.args.level.open_blocks c.requires) in
    (nothing_there _ (follows c.args.level c.args.stage c.args.input.now _ c.between-rest_of_lead.result.now _ None c.trail.ensures c.setting.ensures apart c.in_default.ensures), tt)

pub returns-in-Some-strip_piece : goal.returns-in-Some-strip_piece
returns-in-Some-strip_piece g c =
    let apart = c.between-rest_of_lead.ensures (setting_at c.args.level).depth (few c.args.level.mode c.args.level.open_blocks c.requires) in
    let line = c.in-Some.line.now in
    let start = c.in-Some-strip_piece.start.now in
    let within = strip_within _ c.args.input.now line (sym c.in-Some.ensures) in
    let less = strip_within _ line start (sym c.in-Some-strip_piece.ensures) in
    steps_as g.S.Sink.took g.S.Sink.stopped c.args.sink.now c.next_entry.new.sink (after c.args.level) _ c.next_entry.result _ (omega (arith, within, less))
    (another c.args.level c.args.stage c.args.input.now line start _ _ _ c.trail.ensures c.setting.ensures apart c.in-Some.ensures c.in-Some-strip_piece.ensures)
    c.next_entry.ensures

pub returns-in_default-strip_closing : goal.returns-in_default-strip_closing
returns-in_default-strip_closing g c =
    let apart = c.between-rest_of_lead.ensures (setting_at c.args.level).depth (few c.args.level.mode c.args.level.open_blocks c.requires) in
    let closing = rw (c.kind_and_count-kind.ensures.kind, c.kind_and_count-kind.ensures.count) at c.in_default-strip_closing.ensures in (
      nothing_there _ (follows c.args.level c.args.stage c.args.input.now _ c.between-rest_of_lead.result.now _ (Some c.in-Some.line.now) c.trail.ensures c.setting.ensures apart c.in-Some.ensures
          ∙ rw (sym c.in_default-strip_piece.ensures, sym closing) refl),
      tt,
    )

pub returns-in_err-emit : goal.returns-in_err-emit
returns-in_err-emit g c =
    let apart = c.between-rest_of_lead.ensures (setting_at c.args.level).depth (few c.args.level.mode c.args.level.open_blocks c.requires) in
    let end = c.in-Some-strip_closing.end.now in
    let closing = rw (c.kind_and_count-kind.ensures.kind, c.kind_and_count-kind.ensures.count) at c.in-Some-strip_closing.ensures in
    let closes = ends c.args.level c.args.stage c.args.input.now c.in-Some.line.now end _ _ _ c.trail.ensures c.setting.ensures apart c.in-Some.ensures
    c.in_default-strip_piece.ensures closing in
    step_refused _ (after c.args.level) c.from_residual.result c.from_residual.ensures.1
    (c.in_err-emit.ensures _ (after c.args.level None end) (rw (c.kind_and_count-kind.ensures.kind, c.kind_and_count-kind.ensures.count) closes))

pub returns : goal.returns
returns g c =
    let apart = c.between-rest_of_lead.ensures (setting_at c.args.level).depth (few c.args.level.mode c.args.level.open_blocks c.requires) in
    let line = c.in-Some.line.now in
    let end = c.in-Some-strip_closing.end.now in
    let closing = rw (c.kind_and_count-kind.ensures.kind, c.kind_and_count-kind.ensures.count) at c.in-Some-strip_closing.ensures in
    let within = strip_within _ c.args.input.now line (sym c.in-Some.ensures) in
    let less = strip_within _ line end (sym closing) in
    let closes = ends c.args.level c.args.stage c.args.input.now line end _ _ _ c.trail.ensures c.setting.ensures apart c.in-Some.ensures
    c.in_default-strip_piece.ensures closing in
    (c.in_ok-emit.ensures _ _ (rw (c.kind_and_count-kind.ensures.kind, c.kind_and_count-kind.ensures.count) closes), omega (arith, within, less))
