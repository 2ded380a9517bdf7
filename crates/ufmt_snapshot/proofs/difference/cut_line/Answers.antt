use Rattle.std.proofs.Common.{arith, ◌==◌}
use Rattle.std.proofs.lemmas.List.Splits.{slice_split_first}
use Rattle.ufmt_snapshot.proofs.LineByLine.{lines_of-one}
use Rattle.ufmt_snapshot.proofs.difference.cut_line.Goals as goal

pub returns-in-Some-split_once : goal.returns-in-Some-split_once
returns-in-Some-split_once c =
    let cut = c.in-Some-split_once.ensures.byte (omega arith) (λ w o finds. finds) in
    rw (c.in-Some.is, cut.0, cut.1) (slice_split_first (λ b. b == 10) c.in-Some.text.now 0 cut.2)

pub returns-in-None : goal.returns-in-None
returns-in-None c = rw c.in-Some.is (lines_of-one c.in-Some.text.now (c.in-None.ensures.byte (omega arith) (λ w o finds. finds)))
