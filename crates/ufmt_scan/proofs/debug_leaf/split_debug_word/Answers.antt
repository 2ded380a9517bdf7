use Rattle.std.proofs.Common.{◌≡◌, ◌==◌, refl, sym, ap, drop, length, eqb-true, ◌∙◌, not, Bool, false, true}
use Rattle.ufmt_scan.specs.Private.Fronts.{is_started}
use Rattle.ufmt_scan.proofs.AsciiFronts.{started_by_bracket, word_is_ascii, word_splits}
use Rattle.ufmt_scan.proofs.debug_leaf.split_debug_word.Goals as goal
use Rattle.ufmt_scan.proofs.debug_leaf.split_debug_word.Goals.{then-not-is_empty, else-not-is_empty}

pub text_from-requires-clause-ascii : goal.text_from-requires-clause-ascii
text_from-requires-clause-ascii c = word_is_ascii c.args.input.now c.split_at.result.0.now c.marked_len.result c.marked_len.ensures.len c.split_at.ensures.front

pub returns-then-not-is_started : goal.returns-then-not-is_started
returns-then-not-is_started c = word_splits c.args.input.now c.split_at.result.0.now c.marked_len.result c.marked_len.ensures.len c.split_at.ensures.front
    c.split_at.result.1.now c.marked_len.ensures.within c.split_at.ensures.back (c.ends_here.ensures c.if-ends_here.true) bare
    _ c.text_from.ensures refl refl
  where
    flipped : (b : Bool) → not b ≡ true → b ≡ false
    flipped true h = absurd (cc)
    flipped false h = refl

    -- where the word is empty, the rest is the text
    not_started_at : is_started c.split_at.result.1.now ≡ false → c.marked_len.result ≡ 0 → is_started c.args.input.now ≡ false
    not_started_at none here = sym (ap is_started (c.split_at.ensures.back ∙ ap (λ n. drop n c.args.input.now) here)) ∙ none

    bare : is_started c.args.input.now ≡ false
    bare = elim c.if-not-is_empty.branch [
      | then-not-is_empty w ↦
          let some : (length c.split_at.result.0.now == 0) ≡ false = sym c.is_empty.ensures ∙ w.if-not-is_empty.true in
          started_by_bracket c.args.input.now c.marked_len.result c.marked_len.ensures.len
          (λ none. absurd (cc (some, ap (λ k. k == 0) (c.split_at.ensures.front_len ∙ none))))
      | else-not-is_empty w ↦
          let none : (length c.split_at.result.0.now == 0) ≡ true = sym c.is_empty.ensures ∙ w.if-not-is_empty.false in
          not_started_at (sym w.is_started.ensures ∙ flipped w.is_started.result (sym w.value-is ∙ c.if-not-is_started.true)) (sym c.split_at.ensures.front_len ∙ eqb-true (length c.split_at.result.0.now) 0 none)
    ]
