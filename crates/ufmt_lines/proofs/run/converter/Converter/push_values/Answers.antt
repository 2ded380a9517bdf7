use Rattle.std.proofs.Common.{◌∙◌, ap, arith, length, refl, subst, sym}
use Rattle.std.proofs.lemmas.List.{take_rest}
use Rattle.ufmt_lines.specs.Private.OpenBlocks.{IsKnown}
use Rattle.ufmt_lines.proofs.Conversions.{converted_further}
use Rattle.ufmt_lines.proofs.LinesTogether.{front_converted, whole_converted}
use Rattle.ufmt_lines.proofs.Unclosed.{rest_converted}
use Rattle.ufmt_values.proofs.WithoutEntries.{bracket_opens}
use Rattle.ufmt_lines.proofs.run.converter.Converter.push_values.Goals as goal

pub loop-bracket-init : goal.loop-bracket-init
loop-bracket-init c = record {
  within = omega arith;
  conversion = refl;
  known = c.clear.ensures c.args.text.now;
  ends = c.requires;
  so_far = (length c.args.text.now, omega arith, refl);
}

pub value_at-found-requires-clause-opens : goal.value_at-found-requires-clause-opens
value_at-found-requires-clause-opens c =
    let bracket = c.in-Some.ensures in bracket_opens c.args.text.now c.loop-bracket.at c.in-Some.bracket bracket.2 bracket.0 bracket.1

pub loop-bracket-preserved : goal.loop-bracket-preserved
loop-bracket-preserved c =
    let bracket = c.in-Some.ensures in
    let conversion = c.args.self.now.conversion in
    let same = c.push_next.ensures.same in
    record {
      within = c.in_ok-at.ensures.within;
      conversion = ap (λ s. s.conversion) same ∙ c.loop-bracket.invariant.conversion;
      known = subst (λ s. IsKnown c.args.text.now s.tries) (sym same) c.value_at-found.ensures.known;
      ends = c.values_end-end.ensures;
      so_far = converted_further conversion c.args.text.now c.loop-bracket.at c.in_ok-at.at _ _ _ (omega (arith, bracket.1, bracket.2)) c.in_ok-at.ensures.more
          c.loop-bracket.invariant.so_far (rw c.loop-bracket.invariant.conversion at c.in_ok-at.ensures.ok);
    }

pub returns-then-ends-clause-ok : goal.returns-then-ends-clause-ok
returns-then-ends-clause-ok c =
    let bracket = c.in-Some.ensures in
    let conversion = c.args.self.now.conversion in
    let so_far = converted_further conversion c.args.text.now c.loop-bracket.at c.in_ok-at.at _ _ _ (omega (arith, bracket.1, bracket.2)) c.in_ok-at.ensures.more
    c.loop-bracket.invariant.so_far (rw c.loop-bracket.invariant.conversion at c.in_ok-at.ensures.ok) in
    front_converted conversion c.args.text.now c.in_ok-at.at so_far.0 _ _ c.in_ok-at.ensures.within so_far.1 so_far.2

pub returns-clause-ok : goal.returns-clause-ok
returns-clause-ok c =
    let conversion = c.args.self.now.conversion in
    let so_far = c.loop-bracket.invariant.so_far in
    whole_converted conversion c.args.text.now _ _
    (rest_converted conversion c.args.text.now so_far.0 c.loop-bracket.at c.in_default.ensures _ _ _ so_far.2 (rw take_rest at c.in_ok-push.ensures))
