use Rattle.std.proofs.Common.{◌∙◌, ◌++◌, ap, rules, sym, append-nil}
use Rattle.ufmt_core.specs.Quoted.{escaped_bytes}
use Rattle.ufmt_core.proofs.Writing.{Prints-err, Prints-same}
use Rattle.ufmt_core.proofs.QuotedBytes.{PrintedBefore-then, PrintedBefore-fails}
use Rattle.ufmt_core.proofs.quoted.write_escaped.Goals as goal

pub returns-in_err-write_stretch : goal.returns-in_err-write_stretch
returns-in_err-write_stretch g c =
    Prints-err _ c.from_residual.ensures.0
    (PrintedBefore-fails c.split_stretch.result.0.now (escaped_bytes 34 c.split_stretch.result.1.now) c.stretches.invariant.1 c.split_stretch.ensures.stretch
    c.in_err-write_stretch.ensures)

pub returns-in_default : goal.returns-in_default
returns-in_default g c =
    let written = PrintedBefore-then c.split_stretch.result.0.now (escaped_bytes 34 c.split_stretch.result.1.now) c.stretches.invariant.1
    c.split_stretch.ensures.stretch c.in_ok-write_stretch.ensures in
    Prints-same (sym (written.joined ∙ ap (λ t. written.done ++ escaped_bytes 34 t) c.in_default.ensures ∙ append-nil written.done)) written.prints

pub returns-in_err-write_str : goal.returns-in_err-write_str
returns-in_err-write_str g c =
    let written = PrintedBefore-then c.split_stretch.result.0.now (escaped_bytes 34 c.split_stretch.result.1.now) c.stretches.invariant.1
    c.split_stretch.ensures.stretch c.in_ok-write_stretch.ensures in
    Prints-err _ c.from_residual-in_err-write_str.ensures.0
    (PrintedBefore-fails c.in-Some.escape.now (escaped_bytes 34 c.in-Some.after.now) written c.in-Some.ensures.0 c.in_err-write_str.ensures.prints)

pub stretches-preserved : goal.stretches-preserved
stretches-preserved g c =
    let written = PrintedBefore-then c.split_stretch.result.0.now (escaped_bytes 34 c.split_stretch.result.1.now) c.stretches.invariant.1
    c.split_stretch.ensures.stretch c.in_ok-write_stretch.ensures in
    (search rules, PrintedBefore-then c.in-Some.escape.now (escaped_bytes 34 c.in-Some.after.now) written c.in-Some.ensures.0 c.in_ok-write_str.ensures.prints)
