use Rattle.std.proofs.Common.{◌≡◌, ◌∙◌, refl, subst, sym, ◌++◌, ◌-◌, arith}
use Rattle.ufmt_core.specs.Layout.{ending, frame, lead}
use Rattle.ufmt_core.specs.declared.layout.Count.TheVariants.{One}
use Rattle.ufmt_parser.specs.Taking.{DoesNotBegin, open_blocks, rest, setting_in}
use Rattle.ufmt_parser.proofs.BracketedBlocks.{end_not_there, in_blocks, next_refused, next_trail_refused, none_so_far, one_more, the_last}
use Rattle.ufmt_parser.proofs.blocks.parse_some.Goals as goal

pub entries-init : goal.entries-init
entries-init g c =
    let blocks = open_blocks c.args.parser.now in
    let text = g.P.EntryParser.text c.args.by.now (setting_in g.M.ParseMode.mode blocks) in
    record {
      so_far = rw (c.new-entries.ensures.items) (none_so_far (g.P.EntryParser.fit blocks) text g.M.ParseMode.mode c.args.kind blocks c.requires.bracketed c.requires.counted c.eat_lead.ensures.counted c.if-not-eat_lead.ensures.eats);
      blocks = c.if-not-eat_lead.ensures.blocks;
      shrinks = c.if-not-eat_lead.ensures.shrinks;
    }

pub returns-in-Err-clause-takes : goal.returns-in-Err-clause-takes
returns-in-Err-clause-takes g c =
    next_refused c.entries.invariant.so_far
    (in_blocks g.P.EntryParser.fit (g.P.EntryParser.text c.args.by.now) g.M.ParseMode.mode c.entries.invariant.blocks c.in-Err.ensures.takes)

pub returns-then-not-eat-clause-takes : goal.returns-then-not-eat-clause-takes
returns-then-not-eat-clause-takes g c =
    next_trail_refused c.entries.invariant.so_far
    (in_blocks g.P.EntryParser.fit (g.P.EntryParser.text c.args.by.now) g.M.ParseMode.mode c.entries.invariant.blocks c.in-Ok.ensures.takes)
    (rw (c.trail.ensures, c.mode.ensures) at c.if-not-eat.ensures.eats)

pub returns-then-eat_ending-clause-takes : goal.returns-then-eat_ending-clause-takes
returns-then-eat_ending-clause-takes g c =
    let mode = g.M.ParseMode.mode in
    let blocks = open_blocks c.args.parser.now in
    let same : open_blocks c.eat.new.self ≡ blocks = c.if-not-eat.ensures.blocks ∙ c.in-Ok.ensures.blocks ∙ c.entries.invariant.blocks in
    let still : open_blocks c.eat_lead-in-entries.new.self ≡ blocks = c.if-not-eat_lead-2.ensures.blocks ∙ same in
    rw (c.in-Ok-push.ensures.items) (the_last c.entries.invariant.so_far
    (in_blocks g.P.EntryParser.fit (g.P.EntryParser.text c.args.by.now) mode c.entries.invariant.blocks c.in-Ok.ensures.takes)
    (rw (c.trail.ensures, c.mode.ensures) at c.if-not-eat.ensures.eats)
    (subst (λ n. DoesNotBegin (lead (frame mode c.args.kind) (setting_in mode n) One) (rest c.eat.new.self)) same c.if-not-eat_lead-2.ensures.eats)
    (sym (c.if-not-eat_lead-2.ensures.stays refl)
    ∙ subst (λ n. rest c.eat_lead-in-entries.new.self ≡ ending (frame mode c.args.kind) (setting_in mode (n - 1)) One ++ rest c.eat_ending.new.self) still c.if-eat_ending.ensures.eats))

pub returns-else-eat_ending-clause-takes : goal.returns-else-eat_ending-clause-takes
returns-else-eat_ending-clause-takes g c =
    let mode = g.M.ParseMode.mode in
    let blocks = open_blocks c.args.parser.now in
    let same : open_blocks c.eat.new.self ≡ blocks = c.if-not-eat.ensures.blocks ∙ c.in-Ok.ensures.blocks ∙ c.entries.invariant.blocks in
    let still : open_blocks c.eat_lead-in-entries.new.self ≡ blocks = c.if-not-eat_lead-2.ensures.blocks ∙ same in
    end_not_there c.entries.invariant.so_far
    (in_blocks g.P.EntryParser.fit (g.P.EntryParser.text c.args.by.now) mode c.entries.invariant.blocks c.in-Ok.ensures.takes)
    (rw (c.trail.ensures, c.mode.ensures) at c.if-not-eat.ensures.eats)
    (subst (λ n. DoesNotBegin (lead (frame mode c.args.kind) (setting_in mode n) One) (rest c.eat.new.self)) same c.if-not-eat_lead-2.ensures.eats)
    (λ u at. subst (λ n. DoesNotBegin (ending (frame mode c.args.kind) (setting_in mode (n - 1)) One) (rest c.eat_lead-in-entries.new.self)) still c.if-eat_ending.ensures.eats u
    (c.if-not-eat_lead-2.ensures.stays refl ∙ at))

pub entries-preserved : goal.entries-preserved
entries-preserved g c =
    let mode = g.M.ParseMode.mode in
    let blocks = open_blocks c.args.parser.now in
    let same : open_blocks c.eat.new.self ≡ blocks = c.if-not-eat.ensures.blocks ∙ c.in-Ok.ensures.blocks ∙ c.entries.invariant.blocks in
    record {
      so_far = rw (c.in-Ok-push.ensures.items) (one_more c.entries.invariant.so_far
          (in_blocks g.P.EntryParser.fit (g.P.EntryParser.text c.args.by.now) mode c.entries.invariant.blocks c.in-Ok.ensures.takes)
          (rw (c.trail.ensures, c.mode.ensures) at c.if-not-eat.ensures.eats)
          (subst (λ n. rest c.eat.new.self ≡ lead (frame mode c.args.kind) (setting_in mode n) One ++ rest c.eat_lead-in-entries.new.self) same c.if-not-eat_lead-2.ensures.eats));
      blocks = c.if-not-eat_lead-2.ensures.blocks ∙ same;
      shrinks = omega (arith, c.if-not-eat_lead-2.ensures.shrinks, c.if-not-eat.ensures.shrinks, c.in-Ok.ensures.shrinks, c.entries.invariant.shrinks);
    }
