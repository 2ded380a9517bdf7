use Rattle.std.proofs.Common.{◌≡◌, ◌≢◌, refl, sym, ℕ, Bool, true, false, List, [], ◌∷◌, None, Some, arith}
use Rattle.ufmt_core.specs.Layout.{frame, inside, lead}
use Rattle.ufmt_grammar.specs.Reading.{strip, strip_only_dots}
use Rattle.ufmt_core.specs.declared.layout.Count.TheVariants.{Zero}
use Rattle.ufmt_core.specs.declared.layout.Kind.TheVariants.{Struct, Tuple}
use Rattle.ufmt_scan.specs.Private.Level.{setting_at, Level}
use Rattle.ufmt_scan.specs.Private.Scanning.{after, scan_front, scan_opened, FieldFirst, TupleFirst}
use Rattle.ufmt_scan.specs.Scan.{Leaf, OnlyDots}
use Rattle.ufmt_scan.proofs.DocumentParts.{name_scans, only_dots_scans, only_dots_within, struct_scans, tuple_scans}
use Rattle.ufmt_scan.proofs.EntrySteps.{after_lead}
use Rattle.ufmt_scan.proofs.Scans.{step_refused}
use Rattle.ufmt_scan.proofs.scan.step.begin_front.Goals as goal
use Rattle.ufmt_scan.proofs.scan.step.begin_front.Goals.{then-front+in_default+in_default-strip_only_dots+in_default-strip_lead, else-front}

module _ (level : Level) (is_name : Bool) (w t : List ℕ) (some : w ≢ []) where
  tuple : (r : List ℕ) → is_name ≡ true → Some r ≡ strip (lead (frame level.mode Tuple) (inside (setting_at level)) Zero) t
      → scan_front level is_name w t ≡ scan_opened level Tuple w r
  tuple r named opens = rw named (tuple_scans level w t r some (sym opens))

  only_dots : (r : List ℕ) → is_name ≡ true → None ≡ strip (lead (frame level.mode Tuple) (inside (setting_at level)) Zero) t
      → Some r ≡ strip_only_dots level.class t → scan_front level is_name w t ≡ Some (OnlyDots w ∷ [], r)
  only_dots r named none dots = rw named (only_dots_scans level w t r some (sym none) (sym dots))

  struct : (r : List ℕ) → is_name ≡ true → None ≡ strip (lead (frame level.mode Tuple) (inside (setting_at level)) Zero) t
      → None ≡ strip_only_dots level.class t → Some r ≡ strip (lead (frame level.mode Struct) (inside (setting_at level)) Zero) t → scan_front level is_name w t ≡ scan_opened level Struct w r
  struct r named none no_dots opens = rw named (struct_scans level w t r some (sym none) (sym no_dots) (sym opens))

  name : is_name ≡ true → None ≡ strip (lead (frame level.mode Tuple) (inside (setting_at level)) Zero) t
      → None ≡ strip_only_dots level.class t → None ≡ strip (lead (frame level.mode Struct) (inside (setting_at level)) Zero) t → scan_front level is_name w t ≡ Some (Leaf w ∷ [], t)
  name named none_tuple no_dots none_struct = rw named (name_scans level w t some (sym none_tuple) (sym no_dots) (sym none_struct))

  no_name : is_name ≡ false → scan_front level is_name w t ≡ Some (Leaf w ∷ [], t)
  no_name named = rw named refl

pub returns-in_err-emit : goal.returns-in_err-emit
returns-in_err-emit g c =
    let front = c.args.front in
    step_refused _ (after c.args.level) c.from_residual.result c.from_residual.ensures.1
    (c.in_err-emit.ensures _ (after c.args.level (Some TupleFirst) c.in-Some.rest.now)
    (tuple c.args.level front.is_name front.text.now front.rest.now c.requires c.in-Some.rest.now c.if-front.true c.in-Some.ensures))

pub returns-in-Some : goal.returns-in-Some
returns-in-Some g c =
    let front = c.args.front in (
      c.in_ok-emit.ensures _ _ (tuple c.args.level front.is_name front.text.now front.rest.now c.requires c.in-Some.rest.now c.if-front.true c.in-Some.ensures),
      after_lead c.args.level Tuple front.rest.now c.in-Some.rest.now (sym c.in-Some.ensures),
    )

pub returns-in_err-emit-2 : goal.returns-in_err-emit-2
returns-in_err-emit-2 g c =
    let front = c.args.front in
    let rest = c.in-Some-strip_only_dots.rest.now in
    step_refused _ (after c.args.level) c.from_residual-in_err-emit-2.result c.from_residual-in_err-emit-2.ensures.1
    (c.in_err-emit-2.ensures _ (after c.args.level None rest)
    (only_dots c.args.level front.is_name front.text.now front.rest.now c.requires rest c.if-front.true c.in_default.ensures c.in-Some-strip_only_dots.ensures))

pub returns-in-Some-strip_only_dots : goal.returns-in-Some-strip_only_dots
returns-in-Some-strip_only_dots g c =
    let front = c.args.front in
    let rest = c.in-Some-strip_only_dots.rest.now in
    let within = only_dots_within c.args.level.class front.rest.now rest (sym c.in-Some-strip_only_dots.ensures) in (
      c.in_ok-emit-2.ensures _ _ (only_dots c.args.level front.is_name front.text.now front.rest.now c.requires rest c.if-front.true c.in_default.ensures c.in-Some-strip_only_dots.ensures),
      omega (arith, within),
    )

pub returns-in_err-emit-3 : goal.returns-in_err-emit-3
returns-in_err-emit-3 g c =
    let front = c.args.front in
    let rest = c.in-Some-strip_lead.rest.now in
    step_refused _ (after c.args.level) c.from_residual-in_err-emit-3.result c.from_residual-in_err-emit-3.ensures.1
    (c.in_err-emit-3.ensures _ (after c.args.level (Some FieldFirst) rest)
    (struct c.args.level front.is_name front.text.now front.rest.now c.requires rest c.if-front.true c.in_default.ensures c.in_default-strip_only_dots.ensures c.in-Some-strip_lead.ensures))

pub returns-in-Some-strip_lead : goal.returns-in-Some-strip_lead
returns-in-Some-strip_lead g c =
    let front = c.args.front in
    let rest = c.in-Some-strip_lead.rest.now in (
      c.in_ok-emit-3.ensures _ _ (struct c.args.level front.is_name front.text.now front.rest.now c.requires rest c.if-front.true c.in_default.ensures c.in_default-strip_only_dots.ensures c.in-Some-strip_lead.ensures),
      after_lead c.args.level Struct front.rest.now rest (sym c.in-Some-strip_lead.ensures),
    )

pub returns-in_err-emit-4 : goal.returns-in_err-emit-4
returns-in_err-emit-4 g c =
    let front = c.args.front in
    let leaf : scan_front c.args.level front.is_name front.text.now front.rest.now ≡ Some (Leaf front.text.now ∷ [], front.rest.now) = elim c.if-front.branch [
      | then-front+in_default+in_default-strip_only_dots+in_default-strip_lead w ↦
          name c.args.level front.is_name front.text.now front.rest.now c.requires w.if-front.true w.in_default.ensures w.in_default-strip_only_dots.ensures w.in_default-strip_lead.ensures
      | else-front w ↦ no_name c.args.level front.is_name front.text.now front.rest.now c.requires w.if-front.false
    ] in
    step_refused _ (after c.args.level) c.from_residual-in_err-emit-4.result c.from_residual-in_err-emit-4.ensures.1
    (c.in_err-emit-4.ensures _ (after c.args.level None front.rest.now) leaf)

pub returns : goal.returns
returns g c =
    let front = c.args.front in
    let leaf : scan_front c.args.level front.is_name front.text.now front.rest.now ≡ Some (Leaf front.text.now ∷ [], front.rest.now) = elim c.if-front.branch [
      | then-front+in_default+in_default-strip_only_dots+in_default-strip_lead w ↦
          name c.args.level front.is_name front.text.now front.rest.now c.requires w.if-front.true w.in_default.ensures w.in_default-strip_only_dots.ensures w.in_default-strip_lead.ensures
      | else-front w ↦ no_name c.args.level front.is_name front.text.now front.rest.now c.requires w.if-front.false
    ] in
    (c.in_ok-emit-4.ensures _ _ leaf, omega arith)
