-- A key that is a part of another.
use Rattle.standard.specs.Statement.{PrivateKey, PublicKey}

-- The public key in a private key (RFC 8017 3.1, 3.2).
abbrev pub public_half_of : PrivateKey → PublicKey
public_half_of key = record { modulus = key.modulus; public_exponent = key.public_exponent }
