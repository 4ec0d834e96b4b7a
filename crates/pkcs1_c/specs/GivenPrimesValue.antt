-- The keys that are written of structs that the caller passes.
use Rattle.std.specs.Prelude.{ℕ, List, map}
use Rattle.der_core.specs.Words.{bytes_of}
use Rattle.pkcs1.specs.Words.{number_in, key_with, other_from, other_stated, private_stated}
use Rattle.pkcs1.specs.Keys as keys
use Rattle.pkcs1.specs.declared.private_key.PrivateKeyOf.{PrivateKeyOf}
use Rattle.standard.specs.Statement.{OtherPrime, PrivateKey}
use Rattle.pkcs1_c.specs.Structs.{other_prime_seen}
use Rattle.der_core.specs.declared.integer.uint.UintRef.{UintRef}
use Rattle.pkcs1_c.specs.declared.given_primes.GivenPrimes.{GivenPrimes}

-- The other primes.
abbrev pub given_primes : GivenPrimes → List (keys.OtherRow ℕ)
given_primes given = map (λ o. other_from (other_prime_seen o)) given.others.now

abbrev pub held_primes : GivenPrimes → List OtherPrime
held_primes given = map other_stated (given_primes given)

abbrev pub given_key : PrivateKeyOf UintRef GivenPrimes → keys.PrivateRow ℕ
given_key = key_with (number_in bytes_of) given_primes

abbrev pub held_given_key : PrivateKeyOf UintRef GivenPrimes → PrivateKey
held_given_key key = private_stated (given_key key)
