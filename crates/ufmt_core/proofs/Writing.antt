-- Calls in a row write their texts joined, or, if one fails, a prefix of that.
use Rattle.std.proofs.Common.{◌≡◌, ℕ, ◌+◌, ◌-◌, ◌≤◌, List, [], ◌++◌, length, drop, Bool, true, false, is_ok, Result, Ok, Err, refl, ap, sym, ◌∙◌, subst, append_assoc, append-nil, length-append, true≢false, arith}
use Rattle.std.proofs.lemmas.List.{drop-drop}
use Rattle.std.specs.Prelude.{IsErr}
use Rattle.ufmt_core.specs.Document.{Document}
use Rattle.ufmt_core.specs.Layout.{Setting}
use Rattle.ufmt_core.specs.Writes.{Seen, Appended, Writes}
use Rattle.ufmt_core.specs.Formatter.{Formatter, Prints, LaysOut, lays_out, prints_layout, setting_of}

pub is_ok-err : {X E : Type 0} (r : Result X E) → IsErr r → is_ok r ≡ false
is_ok-err (Ok x) h = cc
is_ok-err (Err e) h = refl

-- `p` was appended, and then `q` or a prefix of it
Appended-then : (ok : Bool) (old p q mid new : List ℕ) → mid ≡ old ++ p → Appended ok mid q new → Appended ok old (p ++ q) new
Appended-then true old p q mid new e h = h ∙ ap (λ t. t ++ q) e ∙ append_assoc old p q
Appended-then false old p q mid new e h = (
  p ++ h.0,
  record { remainder = h.1.remainder; joined = ap (λ t. p ++ t) h.1.joined ∙ sym (append_assoc p h.0 h.1.remainder) },
  h.2
      ∙ ap (λ t. t ++ h.0) e ∙ append_assoc old p h.0,
)

-- a prefix of `p` is a prefix of `p ++ q`
Appended-fails : (old p q new : List ℕ) → Appended false old p new → Appended false old (p ++ q) new
Appended-fails old p q new h =
    (h.0, record { remainder = h.1.remainder ++ q; joined = ap (λ t. t ++ q) h.1.joined ∙ append_assoc h.0 h.1.remainder q }, h.2)

-- a text doesn't shrink
Appended-grows : (ok : Bool) (old piece new : List ℕ) → Appended ok old piece new → length old ≤ length new
Appended-grows true old piece new e = omega (arith, ap length e, length-append old piece)
Appended-grows false old piece new h = omega (arith, ap length h.2, length-append old h.0)

-- stores that are equal past some bytes are equal past more bytes
drop-further : (m n : ℕ) (s t : List ℕ) → m ≤ n → drop m s ≡ drop m t → drop n s ≡ drop n t
drop-further m n s t h e =
    let whole : m + (n - m) ≡ n = omega arith in
    ap (λ k. drop k s) (sym whole) ∙ sym (drop-drop (n - m) m s) ∙ ap (drop (n - m)) e ∙ drop-drop (n - m) m t ∙ ap (λ k. drop k t) whole

module _ {W : Type 0} {seen : Seen W} where
  -- two texts in a row are written joined
  pub Writes-then : {old mid new : W} {p q : List ℕ} {ok : Bool} → Writes seen old p true mid → Writes seen mid q ok new → Writes seen old (p ++ q) ok new
  Writes-then {p = p} {q = q} {ok = ok} a b = record {
    stays_known = λ t. b.stays_known (a.stays_known t);
    appended = λ t. Appended-then ok _ p q _ _ (a.appended t) (b.appended (a.stays_known t));
    fits = λ h. b.fits (omega (arith, length-append p q, a.room_left (omega (arith, length-append p q))));
    room_left = λ h. omega (
      arith,
      length-append p q,
      a.room_left (omega (arith, length-append p q)),
      b.room_left (omega (arith, length-append p q, a.room_left (omega (arith, length-append p q)))),
    );
    has_failed = b.has_failed;
    same_identity = b.same_identity ∙ a.same_identity;
    untouched = λ t. b.untouched (a.stays_known t) ∙ drop-further _ _ _ _ (Appended-grows ok _ q _ (b.appended (a.stays_known t))) (a.untouched t);
  }

  -- a call that fails in `p` fails in each text that begins with `p`
  pub Writes-fails : {old new : W} {p : List ℕ} (q : List ℕ) → Writes seen old p false new → Writes seen old (p ++ q) false new
  Writes-fails {p = p} q a = record {
    stays_known = a.stays_known;
    appended = λ t. Appended-fails _ p q _ (a.appended t);
    fits = λ h. a.fits (omega (arith, length-append p q));
    room_left = λ h. omega (arith, length-append p q, a.room_left (omega (arith, length-append p q)));
    has_failed = a.has_failed;
    same_identity = a.same_identity;
    untouched = a.untouched;
  }

  -- the empty text is written by no call
  pub Writes-nothing : (w : W) → Writes seen w [] true w
  Writes-nothing w = record {
    stays_known = λ t. t;
    appended = λ t. sym (append-nil (seen.text w));
    fits = λ h. refl;
    room_left = λ h. omega arith;
    has_failed = λ no. absurd (true≢false no);
    same_identity = refl;
    untouched = λ t. refl;
  }

  pub Prints-then : {old mid new : Formatter W} {p q : List ℕ} {ok : Bool} → Prints seen old p true mid → Prints seen mid q ok new
      → Prints seen old (p ++ q) ok new
  Prints-then a b = record { wrote = Writes-then a.wrote b.wrote; same_setting = b.same_setting ∙ a.same_setting }

  -- the second text may depend on the mode and depth, which the first call leaves as they were
  pub Prints-then_at : {old mid new : Formatter W} {p : List ℕ} {ok : Bool} (text : Setting → List ℕ) → Prints seen old p true mid
      → Prints seen mid (text (setting_of mid)) ok new → Prints seen old (p ++ text (setting_of old)) ok new
  Prints-then_at {mid = mid} {new} {p} {ok} text a b = Prints-then a (subst (λ (s : Setting). Prints seen mid (text s) ok new) a.same_setting b)

  pub Prints-same : {old new : Formatter W} {p q : List ℕ} {ok : Bool} → p ≡ q → Prints seen old p ok new → Prints seen old q ok new
  Prints-same {old} {new} {ok = ok} e a = subst (λ (t : List ℕ). Prints seen old t ok new) e a

  pub Prints-fails : {old new : Formatter W} {p : List ℕ} (q : List ℕ) → Prints seen old p false new → Prints seen old (p ++ q) false new
  Prints-fails q a = record { wrote = Writes-fails q a.wrote; same_setting = a.same_setting }

  -- a failure that `?` passes on
  pub Prints-err : {X E : Type 0} {old new : Formatter W} {p : List ℕ} (r : Result X E) → IsErr r → Prints seen old p false new
      → Prints seen old p (is_ok r) new
  Prints-err {old = old} {new = new} {p = p} r h a = subst (λ (ok : Bool). Prints seen old p ok new) (sym (is_ok-err r h)) a

  pub LaysOut-err : {X E : Type 0} {old new : Formatter W} {d : Document} (r : Result X E) → IsErr r → LaysOut seen old d false new
      → LaysOut seen old d (is_ok r) new
  LaysOut-err r h a = lays_out (Prints-err r h (prints_layout a))
