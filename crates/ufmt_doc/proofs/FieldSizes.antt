-- A field's value is smaller than the struct that it is in: what the calls for fields go down by.
use Rattle.std.proofs.Common.{◌≡◌, ℕ, ◌+◌, ◌*◌, ◌<◌, ◌≤◌, List, arith, get_or, length, subst, sym}
use Prim.Native.Nat.{max}
use denote.Param.Weighed.{at_most, most}

-- a field weighs what its name does, which is nothing, or what its value does
pub in_field : (size : ℕ) → size ≤ max 0 (max size 0)
in_field size = omega arith

-- where a field weighs no less than its value
pub value_falls : {X : Type 0} (size weigh : X → ℕ) → ((x : X) → size x ≤ weigh x) → (fields : List X) (k : ℕ) (y : X) (t : ℕ) → k < length fields
    → y ≡ get_or fields k y → 2 * most weigh fields + 1 ≡ t → 2 * size y + 0 < t
value_falls size weigh weighs fields k y t within is falls =
    let weight : weigh y ≤ most weigh fields = subst (λ x. weigh x ≤ most weigh fields) (sym is) (at_most weigh fields k y within) in
    let value = weighs y in
    omega arith
