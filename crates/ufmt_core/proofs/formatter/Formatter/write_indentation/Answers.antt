use Rattle.std.proofs.Common.{◌≡◌, ◌+◌, ◌-◌, ◌++◌, codes, false, ap, ◌∙◌, arith}
use Rattle.ufmt_core.specs.Layout.{indentation}
use Rattle.ufmt_core.proofs.Writing.{Prints-then, Prints-fails, Prints-err}
use Rattle.ufmt_core.proofs.Indentation.{indentation-add}
use Rattle.ufmt_core.proofs.formatter.Formatter.write_indentation.Goals as goal

pub returns-in_err-write_str : goal.returns-in_err-write_str
returns-in_err-write_str g c =
    let indents = c.loop-indent._indent in
    let left = c.args.indents - (indents + 1) in
    let whole : indentation c.args.indents ≡ (indentation indents ++ codes "    ") ++ indentation left =
    ap indentation (omega arith) ∙ indentation-add (indents + 1) left ∙ ap (λ t. t ++ indentation left) (indentation-add indents 1) in
    rw whole (Prints-err _ c.from_residual.ensures.0 (Prints-fails _ (Prints-then {ok = false} c.loop-indent.invariant c.in_err-write_str.ensures.prints)))

pub loop-indent-preserved : goal.loop-indent-preserved
loop-indent-preserved g c = rw indentation-add (Prints-then c.loop-indent.invariant c.in_ok-write_str.ensures.prints)
