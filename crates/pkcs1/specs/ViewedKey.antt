-- What the key of a view holds, in the words of `Statement.antt`.
use Rattle.std.specs.Prelude.{ℕ, ◌<◌, List, Option, Some, None, length}
use Rattle.der_core.specs.Words.{bytes_of, number_from_digits}
use Rattle.der_core.specs.declared.integer.uint.UintRef.{UintRef}
use Rattle.pkcs1.specs.OtherPrimesLeft.{others_left}
use Rattle.pkcs1.specs.KeyValue.{key_with}
use Rattle.pkcs1.specs.StatedKeys.{private_stated}
use Rattle.pkcs1.specs.declared.other_primes.OtherPrimes.{OtherPrimes}
use Rattle.pkcs1.specs.declared.private_key.PrivateKeyOf.{PrivateKeyOf}
use Rattle.standard.specs.Statement.{IfPresent, OtherPrime, PrivateKey, PrivateKeyEncoding}
use denote.Struct.Props.{props}

abbrev pub held_viewed_key : PrivateKeyOf UintRef OtherPrimes → PrivateKey
held_viewed_key key = private_stated (key_with (λ u. number_from_digits 256 (bytes_of u)) others_left key)

-- The bytes encode this key.
abbrev pub IsViewed : PrivateKeyOf UintRef OtherPrimes → List ℕ → Type 0
IsViewed key bytes = PrivateKeyEncoding (held_viewed_key key) bytes

-- That is a proposition, as the type of a ghost field has to be.
some_primes_prop : (o : Option (List OtherPrime)) → IsProp (IfPresent (λ others. 0 < length others) o)
some_primes_prop None = hlevel props
some_primes_prop (Some others) = hlevel props

pub viewed_prop : (key : PrivateKeyOf UintRef OtherPrimes) (bytes : List ℕ) → IsProp (IsViewed key bytes)
viewed_prop key bytes = hlevel (props, some_primes_prop (held_viewed_key key).other_primes)
