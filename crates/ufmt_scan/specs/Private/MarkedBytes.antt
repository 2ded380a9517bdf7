-- Bytes at the front of a text of a class.
use Rattle.std.specs.Prelude.{ℕ, suc, if◌then◌else◌, List, [], ◌∷◌}
use Rattle.ufmt_grammar.specs.Bytes.{is_in}
use Rattle.ufmt_grammar.specs.declared.bytes.ByteClass.{ByteClass}

abbrev pub marked_len : ByteClass → List ℕ → ℕ
marked_len class [] = 0
marked_len class (c ∷ t) = if is_in class c then suc (marked_len class t) else 0
