use Rattle.std.proofs.Common.{◌-◌, is_ok, ap, ◌∙◌}
use Rattle.std.specs.Fmt.{char_count}
use Rattle.ufmt_core.specs.Formatter.{setting_of}
use Rattle.ufmt_core.specs.declared.layout.Setting.{Setting}
use Rattle.ufmt.specs.Pieces.{pieces_text}
use Rattle.ufmt.proofs.Columns.{missing_counted}
use Rattle.ufmt.proofs.pieces.marks.Mark.missing_characters.Goals as goal

pub returns : goal.returns
returns g c =
    let counting = c.with_writer-counting in
    let pieces = g.Self.Mark.pieces c.args.self.now c.args.value.now in
    c.missing_after.ensures
    ∙ missing_counted (pieces_text (setting_of counting.result) pieces) c.args.width (is_ok c.print_value-printed.result) {old = counting.result}
    {new = c.print_value-printed.new.f} {begun = c.new.result} counting.ensures.writer c.new.ensures.width c.new.ensures.nothing c.print_value-printed.ensures
    ∙ ap (λ (s : Setting). c.args.width - char_count (pieces_text s pieces)) counting.ensures.setting
