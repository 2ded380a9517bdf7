use Rattle.std.proofs.Common.{◌-◌, ◌∙◌, ap}
use Rattle.std.specs.Fmt.{char_count}
use Rattle.ufmt.proofs.FixedTexts.{missing-short, missing-long}
use Rattle.ufmt.proofs.fixed.missing.Goals as goal

pub returns-in-Some : goal.returns-in-Some
returns-in-Some g c =
    c.saturating_sub.ensures ∙ missing-short c.as_bytes.result.now c.args.width c.as_bytes.ensures.ascii
    ∙ ap (λ text. c.args.width - char_count text) (c.as_bytes.ensures.text ∙ c.in-Some.ensures)

pub returns-in-None : goal.returns-in-None
returns-in-None g c =
    let parts = c.parts-zeros in
    c.saturating_sub-in-None-2.ensures ∙ ap (λ n. n - parts.result.1) c.saturating_sub-in-None.ensures
    ∙ missing-long parts.result.0.now _ parts.result.1 c.args.width parts.ensures.ascii (parts.ensures.text ∙ c.of-text.ensures)
