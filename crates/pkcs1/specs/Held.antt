-- What keys hold, in the words of `Statement.antt`. `octets` gives the octets of a number, the highest first.
use Rattle.std.specs.Prelude.{ℕ, List, [], ◌∷◌, ◌≡◌, ◌<◌, length, map, Option, Some, None}
use Rattle.der_core.specs.Words.{number_from_digits}
use Rattle.std.specs.List.{concat}
use Rattle.pkcs1.specs.OtherPrimesLeft.{others_left}
use Rattle.pkcs1.specs.KeyValue.{Listed, other_of, private_key_with}
use Rattle.pkcs1.specs.StatedKeys.{other_stated, private_stated}
use Rattle.pkcs1.specs.ViewedKey.{held_viewed_key}
use Rattle.pkcs1.specs.declared.other_primes.OtherPrimes.{OtherPrimes}
use Rattle.pkcs1.specs.declared.private_key.other_prime_info.OtherPrimeInfo.{OtherPrimeInfo}
use Rattle.pkcs1.specs.declared.public_key.RsaPublicKey.{RsaPublicKey}
use Rattle.pkcs1.specs.declared.view.RsaPrivateKeyView.{RsaPrivateKeyView}
use Rattle.standard.specs.Statement.{IfPresent, OtherPrime, PrivateKey, PublicKey, integers, sequence}

abbrev pub number_in : {U : Type 0} → (U → List ℕ) → U → ℕ
number_in octets u = number_from_digits 256 (octets u)

abbrev pub held_public_key : {U : Type 0} → (U → List ℕ) → RsaPublicKey U → PublicKey
held_public_key octets key = record {
  modulus = number_from_digits 256 (octets key.modulus);
  public_exponent = number_from_digits 256 (octets key.public_exponent);
}

abbrev pub held_other_prime : {U : Type 0} → (U → List ℕ) → OtherPrimeInfo U → OtherPrime
held_other_prime octets other = other_stated (other_of (number_in octets) other)

-- The other primes that an iterator has left.
abbrev pub held_other_primes : OtherPrimes → List OtherPrime
held_other_primes primes = map other_stated (others_left primes)

-- The encodings of other primes, one behind the other.
abbrev pub primes_encoded : List OtherPrime → List ℕ
primes_encoded others =
    concat (map (λ o. sequence (integers (o.prime ∷ o.exponent ∷ o.coefficient ∷ []))) others)

-- The list is there but empty.
abbrev pub HoldsNone : Option OtherPrimes → Type 0
HoldsNone None = ⊥
HoldsNone (Some primes) = length (held_other_primes primes) ≡ 0

abbrev pub held_private_key : {U : Type 0} → (U → List ℕ) → Listed U → PrivateKey
held_private_key octets key = private_stated (private_key_with (number_in octets) key)

abbrev pub held_view : RsaPrivateKeyView → PrivateKey
held_view view = held_viewed_key view.key

-- A key that may be written: if there is a list of other primes, it isn't empty.
abbrev pub IsPrivateKey : PrivateKey → Type 0
IsPrivateKey key = IfPresent (λ others. 0 < length others) key.other_primes
