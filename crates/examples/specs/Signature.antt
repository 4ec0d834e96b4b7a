-- Dss-Sig-Value ::= SEQUENCE { r INTEGER, s INTEGER } (RFC 3279 2.2.3)
use Rattle.std.specs.Prelude.{ℕ, List, [], ◌∷◌, ◌≡◌, ◌≤◌, length}
use Rattle.der_core.specs.Words.{number_from_digits, number_of, Reading, made, no_parts, parts, tagged, whole, bytes_of}
use Rattle.der_core.specs.Tags as tags
use Rattle.der_core.specs.declared.integer.uint.UintRef.{UintRef}
use Rattle.examples.specs.declared.dss_sig.DssSigValue as values
use Rattle.standard.specs.Statement.{integers, limit, sequence}

pub record Signature : Type 0 where
  pub r : ℕ
  pub s : ℕ

-- SEQUENCE { r INTEGER, s INTEGER }
abbrev pub SignatureEncoding : Signature → List ℕ → Type 0
SignatureEncoding v bytes = (length bytes ≤ limit) × (bytes ≡ sequence (integers (v.r ∷ v.s ∷ [])))

-- What a value of the type holds.
abbrev pub signature_of : values.DssSigValue UintRef → Signature
signature_of it = record { r = number_from_digits 256 (bytes_of it.r); s = number_from_digits 256 (bytes_of it.s) }

-- What a slice is read as: the SEQUENCE, r in it, s behind r, and nothing behind both.
abbrev pub signature_read : Reading Signature
signature_read =
    let number = tagged tags.integer_tag number_of in
    made (λ v. record { r = v.0; s = v.1.0 }) (whole (tagged tags.sequence_tag (parts number (parts number no_parts))))
