use Rattle.std.proofs.Common.{◌∙◌}
use Rattle.ufmt_core.specs.Formatter.{setting_of}
use Rattle.ufmt_core.proofs.Writing.{Prints-then, Prints-fails}
use Rattle.ufmt.proofs.PiecesInARow.{Prints-last, Prints-shown}
use Rattle.ufmt.proofs.laws.line_feed_comes_last.Goals as goal

pub returns-in-Ok-fmt-2 : goal.returns-in-Ok-fmt-2
returns-in-Ok-fmt-2 g c =
    let s = setting_of c.args.f.now in
    let displayed = c.in-Ok-fmt.ensures.same_setting ∙ c.in-Ok.ensures.prints.same_setting in
    Prints-then c.in-Ok.ensures.prints (Prints-then (Prints-shown s c.in-Ok.ensures.prints.same_setting c.in-Ok-fmt.ensures)
    (Prints-then (Prints-shown s displayed c.in-Ok-fmt-2.ensures) (Prints-last c.write_str-in-Ok-fmt-2.ensures.prints)))

pub returns-in-Err-fmt-2 : goal.returns-in-Err-fmt-2
returns-in-Err-fmt-2 g c =
    let s = setting_of c.args.f.now in
    let displayed = c.in-Ok-fmt.ensures.same_setting ∙ c.in-Ok.ensures.prints.same_setting in
    Prints-then c.in-Ok.ensures.prints (Prints-then (Prints-shown s c.in-Ok.ensures.prints.same_setting c.in-Ok-fmt.ensures)
    (Prints-fails _ (Prints-shown s displayed c.in-Err-fmt-2.ensures)))

pub returns-in-Err-fmt : goal.returns-in-Err-fmt
returns-in-Err-fmt g c =
    Prints-then c.in-Ok.ensures.prints (Prints-fails _ (Prints-shown (setting_of c.args.f.now) c.in-Ok.ensures.prints.same_setting c.in-Err-fmt.ensures))
