-- Keys that were read, as structs hold them. For `pkcs1_c_public_key_decode`.
use Rattle.std.proofs.Common.{◌≡◌, sym}
use Rattle.der_core.specs.Words.{holds_canonical, number_octets, bytes_of}
use Rattle.der_core.specs.declared.integer.uint.UintRef.{UintRef}
use Rattle.pkcs1.specs.Words.{number_in}
use Rattle.standard.specs.Statement.{octets}

-- A number's bytes are its octets.
pub octets_held : (u : UintRef) → bytes_of u ≡ octets (number_in bytes_of u)
octets_held u = sym (number_octets (bytes_of u) (holds_canonical (bytes_of u) u.canonical))
