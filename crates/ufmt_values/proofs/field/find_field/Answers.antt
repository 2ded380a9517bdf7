use Rattle.std.proofs.Common.{◌∙◌, sym, arith}
use Rattle.ufmt_values.proofs.FieldSearch.{found_here, looked_further, no_more_none}
use Rattle.ufmt_values.proofs.field.find_field.Goals as goal

pub returns-in-Found-clause-field : goal.returns-in-Found-clause-field
returns-in-Found-clause-field c =
    let bracket = c.in-Some.ensures in
    sym (found_here c.args.class c.args.name.now c.args.line.now c.loop-bracket.at _ _ (omega (arith, bracket.1, bracket.2)) c.loop-bracket.invariant.so_far c.in-Found.ensures.1)

pub loop-bracket-preserved : goal.loop-bracket-preserved
loop-bracket-preserved c =
    let bracket = c.in-Some.ensures in
    let looks = c.in-Next.ensures in
    record {
      within = looks.1;
      ends = c.values_end-end.ensures;
      so_far = looked_further c.args.class c.args.name.now c.args.line.now c.loop-bracket.at c.in-Next.next _ (omega (arith, bracket.1, bracket.2)) looks.0 c.loop-bracket.invariant.so_far looks.2;
    }

pub returns-clause-field : goal.returns-clause-field
returns-clause-field c =
    let so_far = c.loop-bracket.invariant.so_far in
    sym (so_far.2 ∙ no_more_none c.args.class c.args.name.now c.args.line.now so_far.0 c.loop-bracket.at c.in_default.ensures)
