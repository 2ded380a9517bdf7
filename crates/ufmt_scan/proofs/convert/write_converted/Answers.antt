use Rattle.ufmt_scan.proofs.convert.write_converted.Goals as goal

pub returns-in-Plain : goal.returns-in-Plain
returns-in-Plain g c = rw c.in-Plain.is c.write_in.ensures

pub returns-in-Pretty : goal.returns-in-Pretty
returns-in-Pretty g c = rw c.in-Pretty.is c.write_in-in-Pretty.ensures
