-- FNV-1a of 32 bits, a hash of octets in order.
use Rattle.std.specs.Prelude.{ℕ, List, [], ◌∷◌, ◌*◌, ◌^◌, ◌%◌}
use Rattle.std.specs.Int.Bits.{bit_xor}

-- The hash of these octets behind others, of which the hash is given.
abbrev pub fnv_after : ℕ → List ℕ → ℕ
fnv_after hash [] = hash
fnv_after hash (octet ∷ octets) = fnv_after (bit_xor hash octet * 16777619 % 2 ^ 32) octets

abbrev pub fnv : List ℕ → ℕ
fnv octets = fnv_after 2166136261 octets
