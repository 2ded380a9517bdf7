use Rattle.ufmt_scan.proofs.scan.scan_front.Goals as goal

pub returns-in-Token-Plain : goal.returns-in-Token-Plain
returns-in-Token-Plain g c = rw (c.in-Token-Plain.is-0, c.in-Token-Plain.is-1) c.scan_front_in.ensures

pub returns-in-Token-Pretty : goal.returns-in-Token-Pretty
returns-in-Token-Pretty g c = rw (c.in-Token-Pretty.is-0, c.in-Token-Pretty.is-1) c.scan_front_in-in-Token-Pretty.ensures

pub returns-in-Debug-Plain : goal.returns-in-Debug-Plain
returns-in-Debug-Plain g c = rw (c.in-Debug-Plain.is-0, c.in-Debug-Plain.is-1) c.scan_front_in-in-Debug-Plain.ensures

pub returns-in-Debug-Pretty : goal.returns-in-Debug-Pretty
returns-in-Debug-Pretty g c = rw (c.in-Debug-Pretty.is-0, c.in-Debug-Pretty.is-1) c.scan_front_in-in-Debug-Pretty.ensures
