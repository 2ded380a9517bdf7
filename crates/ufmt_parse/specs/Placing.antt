-- An error with the line, the column and the name of its place in a text.
use Rattle.std.specs.Prelude.{◌≡◌, ℕ, List, drop, option_map, take, ⊤}
use Rattle.ufmt_parse.specs.declared.error.ParseError.{ParseError}
use Rattle.ufmt_parse.specs.declared.error.ParseError.TheVariants as error
use Rattle.ufmt_parse.specs.declared.placed.PlacedError.{PlacedError}
use Rattle.ufmt_parse.specs.declared.placed.PlacedError.TheVariants as placed
use Rattle.ufmt_parse.specs.Finding.{IsFound}
use Rattle.ufmt_parse.specs.NamesBefore.{IsNameBefore}
use Rattle.ufmt_parse.specs.Places.{IsPlaceAfter}

-- the line and the column are those of the place, the same is expected there, and the name is the one that ends right before it
abbrev pub IsPlaced : List ℕ → ParseError → PlacedError → Type 0
IsPlaced text (error.NotText at expected) (placed.NotText line column too found after) =
    IsPlaceAfter (take at text) line column × (too ≡ expected) × IsFound (drop at text) found × IsNameBefore (take at text) (option_map (λ name. name.now) after)
IsPlaced text (error.NotText at expected) placed.OutOfMemory = ⊥
IsPlaced text error.OutOfMemory (placed.NotText line column too found after) = ⊥
IsPlaced text error.OutOfMemory placed.OutOfMemory = ⊤
