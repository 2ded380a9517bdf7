-- For a type that holds itself: what holds of a value, by what holds of the values in it.
use Rattle.std.proofs.Common.{◌≡◌, ◌↔◌, subst}
pub use Rattle.ufmt_parse.proofs.Layers.{all_map, same_holds}

-- a fact by its equation at a value that is made of its fields
pub unrolled : {T F : Type 0} (out : T → F) (roll : F → T) → ((t : T) → roll (out t) ≡ t) → (is : T → Type 0) (outer : F → Type 0)
    → ((x : F) → is (roll x) ≡ outer x) → (t : T) → is t ↔ outer (out t)
unrolled out roll roll_out is outer same t = subst (λ u. is u ↔ outer (out t)) (roll_out t) (same_holds (same (out t)))
