-- RSASSA-PSS-params and RSAES-OAEP-params (RFC 8017 A.2.3, A.2.1): identifiers, and algorithms with parameters.
use Rattle.std.specs.Prelude.{ℕ, List, Some, [], ◌∷◌}
use Rattle.standard.specs.Statement.{Algorithm, TagAndContents, empty_label, mgf1_sha1, rsa_encryption, sha1}
pub use Rattle.standard.specs.Statement.{OaepParameters, PssParameters}

-- The contents of identifiers (RFC 8017 appendix C; A.2.1, A.2.3).
abbrev pub id_rsa_encryption : List ℕ
id_rsa_encryption = rsa_encryption.oid

abbrev pub id_sha1 : List ℕ
id_sha1 = sha1.oid

abbrev pub id_mgf1 : List ℕ
id_mgf1 = mgf1_sha1.oid

abbrev pub id_p_specified : List ℕ
id_p_specified = empty_label.oid

-- { pkcs-1 n } (RFC 8017 appendix C)
abbrev pub pkcs1_algorithm : ℕ → List ℕ
pkcs1_algorithm n = 0x2a ∷ 0x86 ∷ 0x48 ∷ 0x86 ∷ 0xf7 ∷ 0x0d ∷ 0x01 ∷ 0x01 ∷ n ∷ []

-- An identifier with parameters.
abbrev pub with_parameters : {P : Type 0} → List ℕ → P → Algorithm P
with_parameters oid parameters = record { oid = oid; parameters = Some parameters }

-- An OCTET STRING (X.690 8.7), as an encoding of any tag.
abbrev pub octets_value : List ℕ → TagAndContents
octets_value octets = record { tag = 0x04; contents = octets }
