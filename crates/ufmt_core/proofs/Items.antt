-- The items of each run of an iterator, one by one.
use Rattle.std.proofs.Common.{List, [], ◌∷◌, map, ap}
use Rattle.std.specs.Prelude.{Option}
use Rattle.std.specs.Iterator.{AlwaysYields}
use Rattle.std.proofs.lemmas.Iterator.{YieldsList}

-- if an iterator gives these items, it gives what `h` makes of them
pub AlwaysYields-items : {S A X Y : Type 0} {steps : S → Option A → S → Type 0} {view : A → X} {s : S} (h : X → Y) (xs : List X)
    → YieldsList steps view s xs → AlwaysYields steps (λ x. h (view x)) s (map h xs)
AlwaysYields-items h [] items = items.runs
AlwaysYields-items {steps = steps} {view = view} h (x ∷ xs) items =
    (items.runs.0, λ y t step. let one = items.runs.1 y t step in (ap h one.0, AlwaysYields-items {steps = steps} {view = view} {s = t} h xs record { runs = one.1 }))
