-- Parses in general: when a text is stripped, and where a result came from.
use Rattle.std.proofs.Common.{◌≡◌, ◌≢◌, ◌⊎◌, inl, inr, refl, ap, ℕ, ◌==◌, Bool, true, false, cond, List, [], ◌∷◌, ◌++◌, Option, Some, None, option_map, option_and_then, eq-eqb, eqb-true}
use Rattle.ufmt_grammar.specs.Reading.{choose, parse_map, strip}

pub strip_joined : (text t : List ℕ) → strip text (text ++ t) ≡ Some t
strip_joined [] t = refl
strip_joined (c ∷ text) t = rw (eq-eqb c c refl) (strip_joined text t)

same_value : {A : Type 0} (x y : A) → Some x ≡ Some y → x ≡ y
same_value x y h = cc

-- equal pairs in an option have equal parts
pub same_parts : {A B : Type 0} (p q : A × B) → Some p ≡ Some q → (p.0 ≡ q.0) × (p.1 ≡ q.1)
same_parts p q h = let e = same_value p q h in (ap (λ r. r.0) e, ap (λ r. r.1) e)

-- one byte of `strip_found`
stripped_byte : (same : Bool) (c b : ℕ) (text t u : List ℕ) → (c == b) ≡ same → (strip text t ≡ Some u → t ≡ text ++ u)
    → cond same (strip text t) None ≡ Some u → b ∷ t ≡ c ∷ (text ++ u)
stripped_byte true c b text t u e rest h = let first = eqb-true c b e in let tail = rest h in cc
stripped_byte false c b text t u e rest h = absurd (cc)

pub strip_found : (text t u : List ℕ) → strip text t ≡ Some u → t ≡ text ++ u
strip_found [] t u h = cc
strip_found (c ∷ text) [] u h = absurd (cc)
strip_found (c ∷ text) (b ∷ t) u h = stripped_byte (c == b) c b text t u refl (strip_found text t u) h

pub strip_of_front : (text t u : List ℕ) → t ≡ text ++ u → strip text t ≡ Some u
strip_of_front text t u h = rw h (strip_joined text u)

pub strip_of_none : (text t : List ℕ) → ((u : List ℕ) → t ≢ text ++ u) → strip text t ≡ None
strip_of_none text t differs = (elim (strip text t) as (λ o. strip text t ≡ o → o ≡ None) [ None ↦ λ e. refl | Some u ↦ λ e. absurd (differs u (strip_found text t u e)) ]) refl

-- one byte of `strip-append`
strip_two : (same : Bool) (a b t : List ℕ) → strip (a ++ b) t ≡ option_and_then (strip b) (strip a t)
    → cond same (strip (a ++ b) t) None ≡ option_and_then (strip b) (cond same (strip a t) None)
strip_two true a b t rest = rest
strip_two false a b t rest = refl

-- a text in two parts is stripped part by part
pub strip-append : (a b t : List ℕ) → strip (a ++ b) t ≡ option_and_then (strip b) (strip a t)
strip-append [] b t = refl
strip-append (c ∷ a) b [] = refl
strip-append (c ∷ a) b (d ∷ t) = strip_two (c == d) a b t (strip-append a b t)

-- a result of `option_and_then` came from the option's value
pub led_from : {A B : Type 0} (f : A → Option B) (o : Option A) (y : B) → option_and_then f o ≡ Some y → (x : A) × (o ≡ Some x) × (f x ≡ Some y)
led_from f None y h = absurd (cc)
led_from f (Some x) y h = (x, refl, h)

-- a result of `choose` came from the option's value, or the option has none
pub chosen_from : {A B : Type 0} (o : Option A) (f : A → B) (b y : B) → choose o f b ≡ y → ((x : A) × (o ≡ Some x) × (f x ≡ y)) ⊎ ((o ≡ None) × (b ≡ y))
chosen_from None f b y h = inr (refl, h)
chosen_from (Some x) f b y h = inl (x, refl, h)

-- the value beside a rest is the fixed one, and the rest came from the option
pub beside_from : {A : Type 0} (a : A) (o : Option (List ℕ)) (x : A) (u : List ℕ)
    → option_map {U = A × List ℕ} (λ v. (a, v)) o ≡ Some (x, u) → (o ≡ Some u) × (a ≡ x)
beside_from a None x u h = absurd (cc)
beside_from {A} a (Some v) x u h =
    let parts = same_parts {A = A} {B = List ℕ} (a, v) (x, u) h in
    (ap (λ w. Some w) parts.1, parts.0)

-- a result of `parse_map` came from a value with the same rest
pub mapped_from : {A B : Type 0} (f : A → B) (o : Option (A × List ℕ)) (y : B) (u : List ℕ) → parse_map f o ≡ Some (y, u) → (x : A)
    × (o ≡ Some (x, u)) × (f x ≡ y)
mapped_from f None y u h = absurd (cc)
mapped_from {A} {B} f (Some x) y u h =
    let parts = same_parts {A = B} {B = List ℕ} (f x.0, x.1) (y, u) h in
    (x.0, ap (λ v. Some (x.0, v)) parts.1, parts.0)
