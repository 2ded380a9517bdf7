use Rattle.std.proofs.Common.{◌∙◌}
use Rattle.ufmt.specs.Formatter.{setting_of}
use Rattle.ufmt.proofs.PiecesInARow.{Prints-fails, Prints-last, Prints-shown, Prints-then}
use Rattle.example_print.proofs.valve_log.print_valve.Goals as goal

pub returns-in-Ok-uwriteln-uwriteln-3 : goal.returns-in-Ok-uwriteln-uwriteln-3
returns-in-Ok-uwriteln-uwriteln-3 g c =
    let s = setting_of c.args.f.now in
    let first = c.in-Ok-uwriteln.ensures.prints in
    let second = Prints-shown s first.same_setting c.in-Ok-uwriteln-uwriteln.ensures in
    let third = c.in-Ok-uwriteln-uwriteln-2.ensures.prints in
    let fourth = Prints-shown s (third.same_setting ∙ second.same_setting ∙ first.same_setting) c.in-Ok-uwriteln-uwriteln-3.ensures in
    Prints-then first (Prints-then second (Prints-then third (Prints-then fourth (Prints-last c.uwriteln-write_str-3.ensures.prints))))

pub returns-in-Err-uwriteln-uwriteln-3 : goal.returns-in-Err-uwriteln-uwriteln-3
returns-in-Err-uwriteln-uwriteln-3 g c =
    let s = setting_of c.args.f.now in
    let first = c.in-Ok-uwriteln.ensures.prints in
    let second = Prints-shown s first.same_setting c.in-Ok-uwriteln-uwriteln.ensures in
    let third = c.in-Ok-uwriteln-uwriteln-2.ensures.prints in
    let fourth = Prints-shown s (third.same_setting ∙ second.same_setting ∙ first.same_setting) c.in-Err-uwriteln-uwriteln-3.ensures in
    Prints-then first (Prints-then second (Prints-then third (Prints-fails _ fourth)))

pub returns-in-Err-uwriteln-uwriteln-2 : goal.returns-in-Err-uwriteln-uwriteln-2
returns-in-Err-uwriteln-uwriteln-2 g c =
    let first = c.in-Ok-uwriteln.ensures.prints in
    let second = Prints-shown (setting_of c.args.f.now) first.same_setting c.in-Ok-uwriteln-uwriteln.ensures in
    Prints-then first (Prints-then second (Prints-fails _ c.in-Err-uwriteln-uwriteln-2.ensures.prints))

pub returns-in-Err-uwriteln-uwriteln : goal.returns-in-Err-uwriteln-uwriteln
returns-in-Err-uwriteln-uwriteln g c =
    let first = c.in-Ok-uwriteln.ensures.prints in
    Prints-then first (Prints-fails _ (Prints-shown (setting_of c.args.f.now) first.same_setting c.in-Err-uwriteln-uwriteln.ensures))

pub returns-in-Err-uwriteln : goal.returns-in-Err-uwriteln
returns-in-Err-uwriteln g c = Prints-fails _ c.in-Err-uwriteln.ensures.prints
