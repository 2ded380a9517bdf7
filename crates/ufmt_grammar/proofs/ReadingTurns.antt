-- The rest of a block is read turn by turn, and every large enough number of turns gives the same result.
use Rattle.std.proofs.Common.{◌≡◌, refl, ap, ℕ, zero, suc, ◌<◌, ◌≤◌, List, ◌++◌, length, length-append, Option, Some, None, option_and_then, codes, arith}
use Rattle.ufmt_core.specs.Document.{Document}
use Rattle.ufmt_core.specs.Layout.{Frame, inside, lead, trail, next, layout}
use Rattle.ufmt_core.specs.declared.layout.Setting.{Setting}
use Rattle.ufmt_core.specs.declared.layout.Count.{Count}
use Rattle.ufmt_grammar.specs.Reading.{Parse, Dots, Rest, choose, parse_map, strip, with_entry, read_name, read_pair, read_further, read_end, read_rest, read_others, read}
use Rattle.ufmt_grammar.proofs.Parsing.{strip_found, led_from, mapped_from}
use Rattle.ufmt_grammar.specs.Leaves.{Class}
use Rattle.ufmt_grammar.proofs.ClassLeaves.{Begins, name_begins, read_name_sound}
use Rattle.ufmt_grammar.proofs.TextsBegin.{document_begins}
use Rattle.ufmt_grammar.proofs.ReadingSound.{read_sound}

-- what `q` reads takes at least one byte of the text
pub record Takes {A : Type 0} (q : Parse A) : Type 0 where
  pub takes : (t : List ℕ) (x : A) (u : List ℕ) → q t ≡ Some (x, u) → length u < length t

begins_takes : (t text u : List ℕ) → Begins text → t ≡ text ++ u → length u < length t
begins_takes t text u b whole =
    let front : length text ≡ suc (length b.tail) = ap length b.is in
    rw (whole, length-append text u) (omega arith)

pub strip_within : (text t u : List ℕ) → strip text t ≡ Some u → length u ≤ length t
strip_within text t u h = rw (strip_found text t u h, length-append text u) (omega arith)

pub read_takes : (class : Class) (s : Setting) (n : ℕ) → Takes (read class s n)
read_takes class s n = record {
  takes = λ t d u h. let found = read_sound class n s t d u h in begins_takes t (layout s d) u (document_begins class s d found.tokens) found.whole;
}

pub read_name_takes : (class : Class) → Takes (read_name class)
read_name_takes class = record { takes = λ t w u h. let found = read_name_sound class t w u h in begins_takes t w u (name_begins class w found.0) found.1 }

pair_takes : {A : Type 0} (key : Parse A) (p : Parse Document) → Takes key → Takes p → (t : List ℕ) (x : A × Document) (u : List ℕ)
    → read_pair key p t ≡ Some (x, u) → length u < length t
pair_takes key p takes_key takes t x u h =
    let first = led_from _ (key t) (x, u) h in
    let after = led_from _ (strip (codes ": ") first.0.1) (x, u) first.2 in
    let value = mapped_from _ (p after.0) x u after.2 in
    let a = takes_key.takes t first.0.0 first.0.1 first.1 in
    let b = strip_within (codes ": ") first.0.1 after.0 after.1 in
    let c = takes.takes after.0 value.0 u value.1 in
    omega arith

pub read_pair_takes : {A : Type 0} (key : Parse A) (p : Parse Document) → Takes key → Takes p → Takes (read_pair key p)
read_pair_takes key p takes_key takes = record { takes = pair_takes key p takes_key takes }

-- `choose` has the same result for two functions that agree on the option's value
same_choice : {A B : Type 0} (o : Option A) (f g : A → B) (b : B) → ((x : A) → o ≡ Some x → f x ≡ g x) → choose o f b ≡ choose o g b
same_choice None f g b h = refl
same_choice (Some x) f g b h = h x refl

-- the same holds of `option_and_then`
same_next : {A B : Type 0} (o : Option A) (f g : A → Option B) → ((x : A) → o ≡ Some x → f x ≡ g x) → option_and_then f o ≡ option_and_then g o
same_next None f g h = refl
same_next (Some x) f g h = h x refl

-- the same holds of `choose`'s other value
same_default : {A B : Type 0} (o : Option A) (f : A → B) (b c : B) → b ≡ c → choose o f b ≡ choose o f c
same_default o f b c h = ap (choose o f) h

-- a turn has the same result with two parses that agree on shorter texts
turn_same : {A : Type 0} (q : Parse A) → Takes q → (dots : Dots) (f : Frame) (s : Setting) (count : Count) (more other : Parse (Rest A)) (t : List ℕ)
    → ((w : List ℕ) → length w < length t → more w ≡ other w)
    → choose (strip (lead f (inside s) count) t) (read_further q dots s.mode more) (read_end f s count t)
    ≡ choose (strip (lead f (inside s) count) t) (read_further q dots s.mode other) (read_end f s count t)
turn_same q takes dots f s count more other t agree =
    same_choice (strip (lead f (inside s) count) t) (read_further q dots s.mode more) (read_further q dots s.mode other) (read_end f s count t)
    (λ v e. same_default (dots v) _ _ _ (same_next (q v) _ _ (λ x r. same_next (strip (trail s.mode) x.1) _ _ (λ w k. ap (parse_map (with_entry x.0)) (agree w (shorter v e x r w k))))))
  where
    shorter : (v : List ℕ) → strip (lead f (inside s) count) t ≡ Some v → (x : _ × List ℕ) → q v ≡ Some x → (w : List ℕ)
        → strip (trail s.mode) x.1 ≡ Some w → length w < length t
    shorter v e x r w k =
        let a = strip_within (lead f (inside s) count) t v e in
        let b = takes.takes v x.0 x.1 r in
        let c = strip_within (trail s.mode) x.1 w k in
        omega arith

-- two numbers of turns have the same result if both are above the text's length
turns_enough : {A : Type 0} (q : Parse A) → Takes q → (dots : Dots) (f : Frame) (s : Setting) (m n : ℕ) (count : Count) (t : List ℕ) → length t < m
    → length t < n → read_rest q dots f s count m t ≡ read_rest q dots f s count n t
unfolding read_rest
turns_enough q takes dots f s zero n count t lm ln = absurd (omega arith)
turns_enough q takes dots f s (suc m) zero count t lm ln = absurd (omega arith)
turns_enough q takes dots f s (suc m) (suc n) count t lm ln =
    turn_same q takes dots f s count (read_rest q dots f s (next count) m) (read_rest q dots f s (next count) n) t
    (λ w less. turns_enough q takes dots f s m n (next count) w (omega (arith, less)) (omega (arith, less)))

-- the rest of a block is one entry and the rest after it, or the dots, or the ending
pub read_others-read_turn : {A : Type 0} (q : Parse A) → Takes q → (dots : Dots) (f : Frame) (s : Setting) (count : Count) (t : List ℕ)
    → read_others q dots f s count t ≡ choose (strip (lead f (inside s) count) t) (read_further q dots s.mode (read_others q dots f s (next count))) (read_end f s count t)
unfolding read_rest
read_others-read_turn q takes dots f s count t =
    turn_same q takes dots f s count (read_rest q dots f s (next count) (length t)) (read_others q dots f s (next count)) t
    (λ w less. turns_enough q takes dots f s (length t) (suc (length w)) (next count) w less (omega arith))
