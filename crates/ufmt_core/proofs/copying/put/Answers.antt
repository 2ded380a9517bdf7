use Rattle.std.proofs.Common.{◌+◌, ◌-◌, ◌++◌, length, take, ap, ◌∙◌, arith}
use Rattle.std.proofs.lemmas.Slice.{take-put_mid, drop-put_mid}
use Rattle.ufmt_core.proofs.copying.put.Goals as goal

pub returns-clause-written : goal.returns-clause-written
returns-clause-written c =
    let start = c.args.start in
    let buffer = c.args.buffer.now in
    let end = start + length c.args.bytes.now in
    let copied = c.copy.ensures in
    take-put_mid start (end - start) buffer c.copy.new.target end (omega (arith, ap length copied)) (omega arith)
    ∙ ap (λ piece. take start buffer ++ piece) copied

pub returns-clause-unwritten : goal.returns-clause-unwritten
returns-clause-unwritten c =
    let start = c.args.start in
    let end = start + length c.args.bytes.now in
    drop-put_mid start (end - start) c.args.buffer.now c.copy.new.target end (omega arith) (omega arith) (omega (arith, ap length c.copy.ensures))
