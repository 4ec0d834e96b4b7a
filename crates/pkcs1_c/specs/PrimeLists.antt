-- The encodings of the caller's other primes.
use Rattle.std.specs.Prelude.{ℕ, List, [], ◌∷◌}
use Rattle.standard.specs.Statement as standard
use Rattle.standard.specs.Statement.{integers, sequence}
use Rattle.pkcs1_c.specs.Structs.{other_prime_seen}
use Rattle.pkcs1_c.specs.declared.private_key.OtherPrime.{OtherPrime}

-- OtherPrimeInfo (RFC 8017 A.1.2)
abbrev pub prime_encoded : standard.OtherPrime → List ℕ
prime_encoded o = sequence (integers (o.prime ∷ o.exponent ∷ o.coefficient ∷ []))

abbrev pub given_encoded : OtherPrime → List ℕ
given_encoded o = prime_encoded (other_prime_seen o)
