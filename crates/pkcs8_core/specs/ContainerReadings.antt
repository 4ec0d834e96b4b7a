-- Containers as functions of the bytes (RFC 5208 5): the container, or the RSA key in it, or the kind of the first
-- fault.
use Rattle.std.specs.Prelude.{ℕ, List, Option, Result}
use Rattle.der_core.specs.declared.error.ErrorKind.{ErrorKind}
use Rattle.der_core.specs.Words.{Reading, ◌>>=◌, alone, expected, made, octets_of_all, optional_front, parts, tagged, whole, integer_tag, octet_string_tag, sequence_tag}
use Rattle.spki_core.specs.Words.{Algorithm, TagAndContents, algorithm_read, any_front}
use Rattle.pkcs1.specs.Words.{rsa_only, rsa_private_key}
use Rattle.pkcs8_core.specs.Container.{Container}
use Rattle.pkcs8_core.specs.Tags.{attributes_tag}
use Rattle.standard.specs.Statement.{PrivateKey}

-- The attributes, whose contents aren't looked at.
abbrev pub last_attributes_read : Reading (Option (List ℕ))
last_attributes_read = alone (optional_front attributes_tag.octet (tagged attributes_tag octets_of_all))

-- A container, whose version is 0.
abbrev pub of_info_parts : Unit {0} × (Algorithm TagAndContents × (List ℕ × Option (List ℕ))) → Container
of_info_parts p = record { algorithm = p.1.0; private_key = p.1.1.0; attributes = p.1.1.1 }

abbrev pub info_read : Reading Container
info_read =
    made of_info_parts (parts (tagged integer_tag (expected 0)) (parts (tagged sequence_tag (algorithm_read any_front))
    (parts (tagged octet_string_tag octets_of_all) last_attributes_read)))

-- A whole slice, as a container.
abbrev pub private_key_info : Reading Container
private_key_info = whole (tagged sequence_tag info_read)

-- The RSA key that these octets of the container encode.
abbrev pub key_in : Container → Reading PrivateKey
key_in c octets = rsa_only c.algorithm >>= λ _. rsa_private_key octets

-- The RSA key that a container holds.
abbrev pub rsa_held : Container → Result PrivateKey ErrorKind
rsa_held c = key_in c c.private_key

-- A whole slice, as a container of an RSA key.
abbrev pub rsa_private_key_info : Reading PrivateKey
rsa_private_key_info bytes = private_key_info bytes >>= rsa_held
