-- Rows of keys, as keys of the statement.
use Rattle.std.specs.Prelude.{ℕ, map, option_map}
use Rattle.pkcs1.specs.Keys.{OtherRow, PrivateRow, PublicRow, others_in}
use Rattle.standard.specs.Statement as standard

-- The same keys of the statement, and back.
abbrev pub public_stated : PublicRow ℕ → standard.PublicKey
public_stated row = record { modulus = row.0; public_exponent = row.1.0 }

abbrev pub public_from : standard.PublicKey → PublicRow ℕ
public_from key = (key.modulus, (key.public_exponent, tt))

abbrev pub other_stated : OtherRow ℕ → standard.OtherPrime
other_stated row = record { prime = row.0; exponent = row.1.0; coefficient = row.1.1.0 }

abbrev pub other_from : standard.OtherPrime → OtherRow ℕ
other_from other = (other.prime, (other.exponent, (other.coefficient, tt)))

abbrev pub private_stated : PrivateRow ℕ → standard.PrivateKey
private_stated row = record {
  modulus = row.0;
  public_exponent = row.1.0;
  private_exponent = row.1.1.0;
  prime1 = row.1.1.1.0;
  prime2 = row.1.1.1.1.0;
  exponent1 = row.1.1.1.1.1.0;
  exponent2 = row.1.1.1.1.1.1.0;
  coefficient = row.1.1.1.1.1.1.1.0;
  other_primes = option_map (map other_stated) (others_in row);
}

abbrev pub private_from : standard.PrivateKey → PrivateRow ℕ
private_from key = (
  key.modulus,
  (
    key.public_exponent,
    (
      key.private_exponent,
      (
        key.prime1,
        (
          key.prime2,
          (key.exponent1, (key.exponent2, (key.coefficient, option_map (map other_from) key.other_primes))),
        ),
      ),
    ),
  ),
)

-- The public key (n, e) of a private key (RFC 8017 3.1, 3.2).
abbrev pub public_part : standard.PrivateKey → standard.PublicKey
public_part key = record { modulus = key.modulus; public_exponent = key.public_exponent }
