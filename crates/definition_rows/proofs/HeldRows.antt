-- Worked rows of `Held.antt` of `pkcs1`: what keys hold whose numbers are octets, and which may be written.
use Rattle.std.proofs.Common.{◌++◌, ℕ, List, [], ◌∷◌, ◌≡◌, ap, arith, length, map, refl, Option, Some, None}
use Rattle.der_core.specs.Words.{bytes_of, number_from_digits}
use Rattle.pkcs1.specs.Held.{HoldsNone, IsPrivateKey, held_other_prime, held_other_primes, held_private_key, held_public_key, held_view, number_in, primes_encoded}
use Rattle.pkcs1.specs.Keys as keys
use Rattle.pkcs1.specs.OtherPrimesLeft.{others_left}
use Rattle.pkcs1.specs.KeyValue.{Listed}
use Rattle.pkcs1.specs.StatedKeys.{other_stated}
use Rattle.pkcs1.specs.declared.other_primes.OtherPrimes.{OtherPrimes}
use Rattle.pkcs1.specs.declared.private_key.other_prime_info.OtherPrimeInfo.{OtherPrimeInfo}
use Rattle.pkcs1.specs.declared.public_key.RsaPublicKey.{RsaPublicKey}
use Rattle.pkcs1.specs.declared.view.RsaPrivateKeyView.{RsaPrivateKeyView}
use Rattle.standard.specs.Statement.{OtherPrime, PrivateKey, PublicKey, length_octets}

abbrev number_itself : List ℕ → List ℕ
number_itself octets = octets

-- == Public keys ==
abbrev given_public_key : RsaPublicKey (List ℕ)
given_public_key = record { modulus = 1 ∷ 2 ∷ []; public_exponent = 3 ∷ 4 ∷ [] }

abbrev meant_public_key : PublicKey
meant_public_key = record { modulus = 258; public_exponent = 772 }

public_key_held : held_public_key number_itself given_public_key ≡ meant_public_key
public_key_held = refl

number_held : number_in number_itself (1 ∷ 0 ∷ 2 ∷ []) ≡ 65538
number_held = refl

-- == Private keys ==
abbrev given_private_key : Listed (List ℕ)
given_private_key = record {
  modulus = 7 ∷ [];
  public_exponent = 3 ∷ [];
  private_exponent = 5 ∷ [];
  prime1 = 11 ∷ [];
  prime2 = 13 ∷ [];
  exponent1 = 2 ∷ [];
  exponent2 = 4 ∷ [];
  coefficient = 1 ∷ 0 ∷ [];
  other_prime_infos = None;
}

abbrev meant_private_key : Option (List OtherPrime) → PrivateKey
meant_private_key others = record {
  modulus = 7;
  public_exponent = 3;
  private_exponent = 5;
  prime1 = 11;
  prime2 = 13;
  exponent1 = 2;
  exponent2 = 4;
  coefficient = 256;
  other_primes = others;
}

private_key_held : held_private_key number_itself given_private_key ≡ meant_private_key None
private_key_held = refl

view_held : (view : RsaPrivateKeyView) → (held_view view).prime2 ≡ number_from_digits 256 (bytes_of view.key.prime2)
view_held view = refl

-- == Other primes ==
abbrev given_other_prime : OtherPrimeInfo (List ℕ)
given_other_prime = record { prime = 1 ∷ 0 ∷ []; exponent = 8 ∷ []; coefficient = 9 ∷ [] }

abbrev meant_other_prime : OtherPrime
meant_other_prime = record { prime = 256; exponent = 8; coefficient = 9 }

other_prime_held : held_other_prime number_itself given_other_prime ≡ meant_other_prime
other_prime_held = refl

abbrev other_prime_left : keys.OtherRow ℕ
other_prime_left = (256, (8, (9, tt)))

other_primes_held : (primes : OtherPrimes) → others_left primes ≡ other_prime_left ∷ other_prime_left ∷ []
    → held_other_primes primes ≡ meant_other_prime ∷ meant_other_prime ∷ []
other_primes_held primes are = ap (map other_stated) are

other_prime_encoded : primes_encoded (meant_other_prime ∷ []) ≡ 48 ∷ 10 ∷ 2 ∷ 2 ∷ 1 ∷ 0 ∷ 2 ∷ 1 ∷ 8 ∷ 2 ∷ 1 ∷ 9 ∷ []
unfolding length_octets
other_prime_encoded = refl

no_list : HoldsNone None → ⊥
no_list p = p

no_prime : (primes : OtherPrimes) → others_left primes ≡ [] → HoldsNone (Some primes)
no_prime primes none = ap (λ others. length (map other_stated others)) none

one_prime : (primes : OtherPrimes) → others_left primes ≡ other_prime_left ∷ [] → HoldsNone (Some primes) → ⊥
one_prime primes one none =
    omega (arith, ap (λ others. length (map other_stated others)) one, none)

-- == What may be written ==
without_primes : IsPrivateKey (meant_private_key None)
without_primes = tt

with_primes : IsPrivateKey (meant_private_key (Some (meant_other_prime ∷ [])))
with_primes = omega arith

empty_list : IsPrivateKey (meant_private_key (Some [])) → ⊥
empty_list p = omega (arith, p)

-- == Of any view, each number; and of two other primes, both ==
view_numbers : (view : RsaPrivateKeyView)
    → ((held_view view).modulus ≡ number_from_digits 256 (bytes_of view.key.modulus))
    × (((held_view view).public_exponent ≡ number_from_digits 256 (bytes_of view.key.public_exponent))
    × (((held_view view).private_exponent ≡ number_from_digits 256 (bytes_of view.key.private_exponent))
    × ((held_view view).coefficient ≡ number_from_digits 256 (bytes_of view.key.coefficient))))
view_numbers view = (refl, (refl, (refl, refl)))

each_prime_encoded : primes_encoded (meant_other_prime ∷ meant_other_prime ∷ [])
    ≡ primes_encoded (meant_other_prime ∷ []) ++ primes_encoded (meant_other_prime ∷ [])
unfolding length_octets
each_prime_encoded = refl
