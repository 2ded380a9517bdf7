use Rattle.std.proofs.Common.{refl, ℕ, arith}
use Rattle.std.proofs.lemmas.List.{take_rest}
use Rattle.ufmt_values.proofs.FieldSearch.{bracket_passed, leaf_fits, value_has, value_has_none, value_within}
use Rattle.ufmt_values.proofs.field.look_at.Goals as goal

pub returns-in_default : goal.returns-in_default
returns-in_default c = (
  omega (arith, c.requires.order),
  omega (arith, c.requires.within),
  λ n. bracket_passed c.args.class c.args.name.now c.args.line.now c.args.at n c.args.bracket c.requires.next c.requires.within c.in_default.ensures,
)

pub returns-in-Some-leaf_of : goal.returns-in-Some-leaf_of
returns-in-Some-leaf_of c =
    let found = c.in-Some.ensures.1 in
    let start = c.in-Some.ensures.0 in
    let before = start.before in
    let has = λ (n : ℕ). value_has c.args.class c.args.name.now c.args.line.now c.args.at n c.args.bracket c.in-Some.start c.in-Some.value.len found.document c.requires.next c.requires.within start.is
    (omega (arith, before, c.requires.within)) found.within found.is c.in-Some-leaf_of.text.now c.in-Some-leaf_of.after.now (rw take_rest at c.in-Some-leaf_of.ensures found.document _ found.is) _ refl in
    ((has 0).0, λ n. (has n).1)

pub returns-in-None : goal.returns-in-None
returns-in-None c =
    let found = c.in-Some.ensures.1 in
    let start = c.in-Some.ensures.0 in
    let before = start.before in
    let low = start.from_low in
    let some = found.some in
    let within = found.within in (
      omega (arith, some, low),
      value_within c.args.line.now c.in-Some.start c.in-Some.value.len (omega (arith, before, c.requires.within)) within,
      λ n. value_has_none c.args.class c.args.name.now c.args.line.now c.args.at n c.args.bracket c.in-Some.start c.in-Some.value.len found.document c.requires.next c.requires.within start.is
          (omega (arith, before, c.requires.within)) found.within found.is (rw take_rest at c.in-None.ensures found.document _ found.is),
    )

pub overflow_sub-result : goal.overflow_sub-result
overflow_sub-result c =
    let found = c.in-Some.ensures.1 in
    omega (
      arith,
      leaf_fits c.args.class c.args.line.now c.in-Some.start found.document _ found.is c.args.name.now c.in-Some-leaf_of.text.now c.in-Some-leaf_of.after.now
          (rw take_rest at c.in-Some-leaf_of.ensures found.document _ found.is),
    )

pub overflow_sub-result-in-Some-leaf_of : goal.overflow_sub-result-in-Some-leaf_of
overflow_sub-result-in-Some-leaf_of c =
    let found = c.in-Some.ensures.1 in
    omega (
      arith,
      leaf_fits c.args.class c.args.line.now c.in-Some.start found.document _ found.is c.args.name.now c.in-Some-leaf_of.text.now c.in-Some-leaf_of.after.now
          (rw take_rest at c.in-Some-leaf_of.ensures found.document _ found.is),
    )
