-- The octets that a borrowed OCTET STRING holds.
use Rattle.std.specs.Prelude.{ℕ, List}
use Rattle.der_core.specs.declared.octet_string.OctetStringRef.{OctetStringRef}

abbrev pub octets_of : OctetStringRef → List ℕ
octets_of string = string.bytes.now
