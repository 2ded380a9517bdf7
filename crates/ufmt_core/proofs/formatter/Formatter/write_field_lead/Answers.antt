use Rattle.ufmt_core.proofs.Writing.{Prints-then, Prints-fails, Prints-err}
use Rattle.ufmt_core.proofs.formatter.Formatter.write_field_lead.Goals as goal

pub returns-in_err-write_str : goal.returns-in_err-write_str
returns-in_err-write_str g c = Prints-err _ c.from_residual-in_err-write_str.ensures.0
    (Prints-then c.in_ok-write_lead.ensures (Prints-fails _ c.in_err-write_str.ensures.prints))

pub returns : goal.returns
returns g c = Prints-then c.in_ok-write_lead.ensures (Prints-then c.in_ok-write_str.ensures.prints c.write_str-2.ensures.prints)
