use Rattle.std.proofs.Common.{◌∙◌, inl, refl, sym}
use Rattle.ufmt_parse_leaves.proofs.SpelledTexts.{byte_read}
use Rattle.ufmt_scan.proofs.Spelled.{never_closes}
use Rattle.ufmt_parse_leaves.proofs.texts.read_bytes.Goals as goal

pub returns-in-None : goal.returns-in-None
returns-in-None g c =
    (never_closes 34 (inl refl) _ c.in_ok-end.end.now (record { bytes = c.push_stretch.new.bytes.items; is = sym (c.in_ok-end.ensures.whole ∙ c.escapes.invariant) })
    c.in_default.ensures (c.in-None.ensures.none refl)).never

pub escapes-preserved : goal.escapes-preserved
escapes-preserved g c =
    byte_read c.in-Some-split_escaped.byte c.push_stretch.new.bytes.items c.push.new.self.items c.in_ok-end.end.now c.in-Some-split_escaped.after.now
    c.in_ok-push-in-Some-split_escaped.ensures.items c.in-Some-split_escaped.ensures.some ∙ c.in_ok-end.ensures.whole ∙ c.escapes.invariant
