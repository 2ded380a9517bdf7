-- The rest of a text, after a part was split off its front.
use Rattle.std.specs.Prelude.{List, ℕ, Option, option_map}
use Rattle.std.specs.Borrow.{Bor}

-- the bytes of the rest, if there is one
abbrev pub now_of : Option (Bor (List ℕ)) → Option (List ℕ)
now_of rest = option_map (λ r. r.now) rest
