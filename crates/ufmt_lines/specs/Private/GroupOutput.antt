-- What contracts see of an output that grows.
use Rattle.std.specs.Prelude.{List, [], ℕ, ⊤}
use Rattle.ufmt.specs.Writes.{Seen}
use Rattle.ufmt_lines.specs.declared.run.output.GroupOutput.{GroupOutput}

-- the bytes so far
abbrev pub output_bytes : GroupOutput → List ℕ
output_bytes output = output.bytes.items

-- it writes as a `String` does: its text is always known, and any growth may fail
abbrev pub output_seen : Seen GroupOutput
output_seen = record { known = λ a. ⊤; text = output_bytes; room = λ a. 0; failed = λ a. ⊤; identity = λ a. []; whole_buffer = λ a. [] }
