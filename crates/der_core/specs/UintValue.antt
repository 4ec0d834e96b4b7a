-- The number that an integer with bytes of its own holds.
use Rattle.std.specs.Prelude.{ℕ, List}
use Rattle.der_core.specs.declared.integer.owned.Uint.{Uint}

-- its bytes, most significant first
abbrev pub own_bytes_of : Uint → List ℕ
own_bytes_of number = number.bytes.items
