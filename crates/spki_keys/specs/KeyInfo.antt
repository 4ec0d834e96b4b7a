-- SubjectPublicKeyInfo of RSA keys (RFC 5280 4.1.2.7, RFC 3279 2.3.1).
use Rattle.std.specs.Prelude.{ℕ, List, ◌∷◌, ◌≡◌, ◌≤◌, ◌++◌, length, Ok, Result}
use Rattle.der_core.specs.declared.error.ErrorKind.{ErrorKind}
use Rattle.der_core.specs.Words.{Reading, ◌>>=◌, alone, behind_zero, bit_string_tag, no_parts, parts, sequence_tag, tagged, whole}
use Rattle.pkcs1.specs.Words.{public_read, public_stated, rsa_only}
use Rattle.spki_core.specs.Words.{algorithm_read, any_front}
use Rattle.standard.specs.Statement.{Algorithm, PublicKey, PublicKeyEncoding, TagAndContents, algorithm, any, limit, rsa_encryption, sequence, tlv}

-- SEQUENCE { algorithm AlgorithmIdentifier (rsaEncryption with NULL), subjectPublicKey BIT STRING }: the contents of the
-- BIT STRING are 0, for no unused bits, and an encoding of the key.
abbrev pub RsaKeyInfoEncoding : PublicKey → List ℕ → Type 0
RsaKeyInfoEncoding key bytes =
    (length bytes ≤ limit) × (inner : List ℕ) × PublicKeyEncoding key inner
    × (bytes ≡ sequence (algorithm any rsa_encryption ++ tlv 3 (0 ∷ inner)))

-- The algorithm and the key, as their row.
abbrev pub KeyInfoRow : Type 0
KeyInfoRow = Algorithm TagAndContents × ((ℕ × (ℕ × Unit {0})) × Unit {0})

-- A whole slice, with any algorithm, or the kind of the first fault; and the key in it, if that is rsaEncryption.
abbrev pub key_info_read : Reading KeyInfoRow
key_info_read =
    whole (tagged sequence_tag (parts (tagged sequence_tag (algorithm_read any_front))
    (parts (tagged bit_string_tag (behind_zero (alone public_read))) no_parts)))

abbrev pub rsa_key_in : KeyInfoRow → Result PublicKey ErrorKind
rsa_key_in v = rsa_only v.0 >>= λ _. Ok (public_stated v.1.0)

abbrev pub rsa_key_info_read : Reading PublicKey
rsa_key_info_read bytes = key_info_read bytes >>= rsa_key_in
