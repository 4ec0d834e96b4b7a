-- The number that a borrowed integer holds.
use Rattle.std.specs.Prelude.{ℕ, List}
use Rattle.der_core.specs.declared.integer.uint.UintRef.{UintRef}

-- its bytes, most significant first
abbrev pub bytes_of : UintRef → List ℕ
bytes_of number = number.bytes.now
