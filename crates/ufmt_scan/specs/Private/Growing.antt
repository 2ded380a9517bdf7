-- What contracts see of a text that grows.
use Rattle.std.specs.Prelude.{List, [], ℕ, take, ⊤}
use Rattle.ufmt_core.specs.Writes.{Seen}
use Rattle.ufmt_scan.specs.declared.convert.growing.Growing.{Growing}

-- the bytes so far
abbrev pub growing_text : Growing → List ℕ
growing_text g = take g.count g.bytes.items

-- it writes as a `String` does: its text is always known, and any growth may fail
abbrev pub growing_seen : Seen Growing
growing_seen = record { known = λ g. ⊤; text = growing_text; room = λ g. 0; failed = λ g. ⊤; identity = λ g. []; whole_buffer = λ g. [] }
