use Rattle.std.proofs.Common.{◌∙◌, sym, true}
use mathlib.Core.Bool.{true≢false}
use Rattle.std.proofs.lemmas.Bool.Decides.{Decides-eqb}
use Rattle.std.proofs.lemmas.Slice.Eq.{slice_eq-Decides}
use Rattle.ufmt_core.proofs.FloatTexts.{the_float_text}
use Rattle.ufmt_parse_leaves.proofs.FloatFronts.{none_read, other_read}
use Rattle.ufmt_parse_leaves.proofs.floats.read_exactly.Goals as goal

pub returns-in-None : goal.returns-in-None
returns-in-None g c = λ x float. none_read g.F.Float-2.format c.args.text.now c.in-None.ensures (g.F.Float-2.value x) float

pub returns-then-eq : goal.returns-then-eq
returns-then-eq g c =
    let equal = slice_eq-Decides Decides-eqb _ _ _ c.eq.ensures in (
      c.prove_float.ensures,
      sym c.as_bytes-in-Some.ensures.value ∙ sym (equal.0 c.if-eq.true) ∙ c.as_bytes.ensures.text
          ∙ the_float_text g.F.Float-2.format true (g.F.Float-2.value c.in-Some.x) c.of.result c.prove_float.ensures c.of.ensures,
    )

pub returns-else-eq : goal.returns-else-eq
returns-else-eq g c =
    let equal = slice_eq-Decides Decides-eqb _ _ _ c.eq.ensures in
    λ x float. other_read g.F.Float-2.format c.args.text.now c.of.result (g.F.Float-2.value c.in-Some.x) c.in-Some.ensures c.of.ensures
    (λ same. true≢false (sym (equal.1 (c.as_bytes.ensures.text ∙ same ∙ sym c.as_bytes-in-Some.ensures.value)) ∙ c.if-eq.false)) (g.F.Float-2.value x) float
