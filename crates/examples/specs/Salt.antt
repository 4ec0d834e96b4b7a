-- OptionalSalt ::= SEQUENCE { iterations INTEGER, salt OCTET STRING OPTIONAL }
use Rattle.std.specs.Prelude.{ℕ, List, ◌≡◌, ◌≤◌, ◌++◌, length, Option, option_map}
use Rattle.der_core.specs.Words.{number_from_digits, octets_of, number_of, Reading, last, made, octets_of_all, parts, tagged, whole, bytes_of}
use Rattle.der_core.specs.Tags as tags
use Rattle.der_core.specs.declared.integer.uint.UintRef.{UintRef}
use Rattle.der_core.specs.declared.octet_string.OctetStringRef.{OctetStringRef}
use Rattle.examples.specs.declared.optional_salt.OptionalSalt as values
use Rattle.standard.specs.Statement.{AreOctets, IfPresent, integer, limit, optional, sequence, tlv}

pub record Salt : Type 0 where
  pub iterations : ℕ
  pub salt : Option (List ℕ)

abbrev pub IsSalt : Salt → Type 0
IsSalt v = IfPresent AreOctets v.salt

-- SEQUENCE { iterations INTEGER, salt OCTET STRING OPTIONAL }
abbrev pub SaltEncoding : Salt → List ℕ → Type 0
SaltEncoding v bytes =
    (length bytes ≤ limit) × IsSalt v × (bytes ≡ sequence (integer v.iterations ++ optional (tlv 4) v.salt))

-- What a value of the type holds.
abbrev pub salt_of : values.OptionalSalt UintRef OctetStringRef → Salt
salt_of it =
    record { iterations = number_from_digits 256 (bytes_of it.iterations); salt = option_map octets_of it.salt }

-- What a slice is read as: the SEQUENCE, the number in it, and the salt if anything is left.
abbrev pub salt_read : Reading Salt
salt_read =
    let row = parts (tagged tags.integer_tag number_of) (last (tagged tags.octet_string_tag octets_of_all)) in
    made (λ v. record { iterations = v.0; salt = v.1 }) (whole (tagged tags.sequence_tag row))
