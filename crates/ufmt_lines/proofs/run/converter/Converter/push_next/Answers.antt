use Rattle.std.proofs.Common.{◌≡◌, ◌∙◌, refl, ap, sym, ◌+◌, ◌-◌, Some, drop, take, is_some, arith}
use Rattle.ufmt_core.specs.Layout.{layout, setting}
use Rattle.ufmt_lines.specs.Private.Converted.{converted}
use Rattle.ufmt_lines.specs.Values.{bytes_between}
use Rattle.ufmt_lines.proofs.Conversions.{bracket_stays, value_changed, value_kept}
use Rattle.ufmt_lines.proofs.FoundValues.{front_converted}
use Rattle.ufmt_values.proofs.FoundValues.{value_read}
use Rattle.ufmt_lines.proofs.run.converter.Converter.push_next.Goals as goal

pub returns-in_default-clause-ok : goal.returns-in_default-clause-ok
returns-in_default-clause-ok c = λ n.
    bracket_stays c.args.self.now.conversion c.args.text.now c.args.at n c.args.bracket c.requires.next c.requires.within _ refl (rw c.in_default.is at c.requires.found)
    _ _ c.in_ok-push.ensures

pub push_converted-requires : goal.push_converted-requires
push_converted-requires c =
    let at_bracket = rw c.in-Some.is at c.requires.found in
    let found = at_bracket.1 in
    let start = c.in-Some.start in
    let value = value_read c.args.self.now.conversion.to (drop start c.args.text.now) found.document _ found.is in
    let size : (start + c.in-Some.value.len) - start ≡ c.in-Some.value.len = omega arith in
    ap (λ n. is_some (converted c.args.self.now.conversion.to (take n (drop start c.args.text.now)))) size
    ∙ ap is_some (front_converted c.args.self.now.conversion.to (drop start c.args.text.now) found.document c.in-Some.value.len found.within value)

pub returns-in_ok-push-3-clause-more : goal.returns-in_ok-push-3-clause-more
returns-in_ok-push-3-clause-more c = let value = rw c.in-Some.is at c.requires.found in let some = value.1.some in let low = value.0.from_low in omega (arith, some, low)

pub returns-in_ok-push_converted-clause-more : goal.returns-in_ok-push_converted-clause-more
returns-in_ok-push_converted-clause-more c = let value = rw c.in-Some.is at c.requires.found in let some = value.1.some in let low = value.0.from_low in omega (arith, some, low)

pub returns-in_ok-push-3-clause-ok : goal.returns-in_ok-push-3-clause-ok
returns-in_ok-push-3-clause-ok c = λ n.
    let at_bracket = rw c.in-Some.is at c.requires.found in
    let found = at_bracket.1 in
    let before = at_bracket.0.before in
    value_kept c.args.self.now.conversion c.args.text.now c.args.at n c.args.bracket c.requires.next c.requires.within c.in-Some.start c.in-Some.value.len found.document at_bracket.0.is
    found.within (omega (arith, before, c.requires.within)) found.is _ _ _ c.in_ok-push-2.ensures (sym (c.stays.ensures found.document found.leaf) ∙ c.if-stays.true) c.in_ok-push-3.ensures

pub returns-in_ok-push_converted-clause-ok : goal.returns-in_ok-push_converted-clause-ok
returns-in_ok-push_converted-clause-ok c = λ n.
    let at_bracket = rw c.in-Some.is at c.requires.found in
    let found = at_bracket.1 in
    let start = c.in-Some.start in
    let before = at_bracket.0.before in
    let value = value_read c.args.self.now.conversion.to (drop start c.args.text.now) found.document _ found.is in
    let size : (start + c.in-Some.value.len) - start ≡ c.in-Some.value.len = omega arith in
    let other : converted c.args.self.now.conversion.to (bytes_between c.args.text.now start (start + c.in-Some.value.len)) ≡ Some (layout (setting c.args.self.now.conversion.to 0) found.document) =
    ap (λ n. converted c.args.self.now.conversion.to (take n (drop start c.args.text.now))) size
    ∙ front_converted c.args.self.now.conversion.to (drop start c.args.text.now) found.document c.in-Some.value.len found.within value in
    let written = c.in_ok-push_converted.ensures in
    value_changed c.args.self.now.conversion c.args.text.now c.args.at n c.args.bracket c.requires.next c.requires.within start c.in-Some.value.len found.document at_bracket.0.is
    found.within (omega (arith, before, c.requires.within)) found.is _ _ _ c.in_ok-push-2.ensures (sym (c.stays.ensures found.document found.leaf) ∙ c.if-stays.false)
    written.0 (sym written.1 ∙ other) written.2
