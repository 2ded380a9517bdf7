-- What contracts see of a device as a writer.
use Rattle.std.specs.Prelude.{ℕ, List, [], ⊤, Option, None, Some}
use Rattle.ufmt.specs.declared.device.Device.{Device}
use Rattle.ufmt_core.specs.Writes.{Seen}

-- the device itself
abbrev pub device_of : {W : Type 0} → Device W → W
device_of d = d.inner

-- whether the bytes that a device holds are known
abbrev pub IsKnown : Option (List ℕ) → Type 0
IsKnown None = ⊥
IsKnown (Some bytes) = ⊤

-- these bytes, where they are known
abbrev pub known_bytes : Option (List ℕ) → List ℕ
known_bytes None = []
known_bytes (Some bytes) = bytes

-- its text is what the device holds; any write may fail, and it was lent no buffer
abbrev pub device_seen : {W : Type 0} → (W → Option (List ℕ)) → Seen (Device W)
device_seen contents = record {
  known = λ d. IsKnown (contents (device_of d));
  text = λ d. known_bytes (contents (device_of d));
  room = λ d. 0;
  failed = λ d. ⊤;
  identity = λ d. [];
  whole_buffer = λ d. [];
}
