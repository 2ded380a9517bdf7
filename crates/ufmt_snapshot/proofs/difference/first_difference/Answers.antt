use Rattle.std.proofs.Common.{◌≡◌, ◌∙◌, ◌+◌, ◌-◌, not, suc, ap, arith, refl, sym}
use Rattle.std.proofs.lemmas.Bool.{not_from_true}
use Rattle.ufmt.specs.Lines.{lines_of}
use Rattle.ufmt_snapshot.proofs.LineByLine.{copied-none, index_within, line_is, lines_differ, lines_of-injective, lines_same, none_left, rest_is, same-whole, take-further}
use Rattle.ufmt_snapshot.proofs.difference.first_difference.Goals as goal

pub returns-then-ne-clause-first : goal.returns-then-ne-clause-first
returns-then-ne-clause-first c =
    let l = c.loop-given_rest in
    let given = c.cut_line in
    let stored = c.cut_line-in-loop-given_rest in
    let given_line = line_is (l.line - 1) c.args.given.now l.given_left given.result.0 given.result.1 l.invariant.given_rest given.ensures in
    let stored_line = line_is (l.line - 1) c.args.stored.now l.stored_left stored.result.0 stored.result.1 l.invariant.stored_rest stored.ensures in record {
      from_one = l.invariant.from_one;
      same_before = l.invariant.same_before;
      given_line = sym given_line;
      stored_line = sym stored_line;
      differ = λ same. lines_differ given.result.0 stored.result.0 c.ne.result c.ne.ensures c.if-ne.true (sym given_line ∙ same ∙ stored_line);
    }

pub returns-then-is_none-clause-equal : goal.returns-then-is_none-clause-equal
returns-then-is_none-clause-equal c =
    let l = c.loop-given_rest in
    let given = c.cut_line in
    let stored = c.cut_line-in-loop-given_rest in
    let none = copied-none given.result.0 (c.is_none.ensures ∙ not_from_true c.is_none.result c.if-is_none.true) in
    let same = lines_same given.result.0 stored.result.0 c.ne.result c.ne.ensures c.if-ne.false in
    let given_end = none_left (l.line - 1) c.args.given.now l.given_left given.result.0 given.result.1 l.invariant.given_rest given.ensures none in
    let stored_end = none_left (l.line - 1) c.args.stored.now l.stored_left stored.result.0 stored.result.1 l.invariant.stored_rest stored.ensures (sym same ∙ none) in (
      λ _. lines_of-injective c.args.given.now c.args.stored.now
          (same-whole (l.line - 1) (lines_of c.args.given.now) (lines_of c.args.stored.now) l.invariant.same_before given_end stored_end),
      λ _. refl,
    )

pub overflow_add-line : goal.overflow_add-line
overflow_add-line c =
    let l = c.loop-given_rest in
    let given = c.cut_line in
    omega (
      arith,
      index_within (l.line - 1) c.args.given.now l.given_left given.result.0 given.result.1 l.invariant.given_rest given.ensures
          (c.is_none.ensures ∙ ap not c.if-is_none.false),
    )

pub loop-given_rest-preserved : goal.loop-given_rest-preserved
loop-given_rest-preserved c =
    let l = c.loop-given_rest in
    let given = c.cut_line in
    let stored = c.cut_line-in-loop-given_rest in
    let given_line = line_is (l.line - 1) c.args.given.now l.given_left given.result.0 given.result.1 l.invariant.given_rest given.ensures in
    let stored_line = line_is (l.line - 1) c.args.stored.now l.stored_left stored.result.0 stored.result.1 l.invariant.stored_rest stored.ensures in
    let same = lines_same given.result.0 stored.result.0 c.ne.result c.ne.ensures c.if-ne.false in
    let from_one = l.invariant.from_one in
    let next : suc (l.line - 1) ≡ l.line + 1 - 1 = omega arith in record {
      from_one = omega arith;
      same_before = rw (← next) (take-further (l.line - 1) (lines_of c.args.given.now) (lines_of c.args.stored.now) l.invariant.same_before (given_line ∙ same ∙ sym stored_line));
      given_rest = rw (← next) (rest_is (l.line - 1) c.args.given.now l.given_left given.result.0 given.result.1 l.invariant.given_rest given.ensures);
      stored_rest = rw (← next) (rest_is (l.line - 1) c.args.stored.now l.stored_left stored.result.0 stored.result.1 l.invariant.stored_rest stored.ensures);
    }
