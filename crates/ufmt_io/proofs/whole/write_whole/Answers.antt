use Rattle.std.proofs.Common.{rules}
use Rattle.std.proofs.lemmas.List.{places, take_rest}
use Rattle.ufmt_io.proofs.KnownParts.{appends_prefix, appends_longer_prefix}
use Rattle.ufmt_io.proofs.whole.write_whole.Goals as goal

pub loop-written-preserved : goal.loop-written-preserved
loop-written-preserved g c =
    let taken = c.in_ok-written.ensures in
    record {
      within = search (rules, places);
      works = search rules;
      goes_on = search rules;
      so_far = appends_longer_prefix _ _ _ c.args.bytes.now c.loop-written.written c.in_ok-written.field-0
          c.loop-written.invariant.so_far (rw take_rest at taken.bytes);
    }

pub returns-in_err-written-clause-err : goal.returns-in_err-written-clause-err
returns-in_err-written-clause-err g c =
    let known = appends_prefix _ _ _ c.args.bytes.now c.loop-written.written c.loop-written.invariant.so_far c.in_err-written.ensures.bytes in
    search (rules, known)
