-- Indentation in two parts.
use Rattle.std.proofs.Common.{◌≡◌, ℕ, zero, suc, ◌+◌, ◌∷◌, ◌++◌, ap, ◌∙◌, zero-add, suc-add}
use Rattle.ufmt_core.specs.Layout.{indentation}

pub indentation-add : (m n : ℕ) → indentation (m + n) ≡ indentation m ++ indentation n
indentation-add zero n = ap indentation (zero-add n)
indentation-add (suc m) n = ap indentation (suc-add m n) ∙ ap (λ t. 32 ∷ 32 ∷ 32 ∷ 32 ∷ t) (indentation-add m n)
