-- A key that the caller passes, as the row that it is written as. For `src/given_key.rt`.
use Rattle.std.proofs.Common.{ℕ, List, ◌≡◌, ◌∙◌, ap, arith, Option, Some, None, option_map}
use Rattle.std.proofs.lemmas.Grind.{common_steps}
use Rattle.std.proofs.lemmas.List.{length-map}
use Rattle.std.specs.List.{AllByRecursion}
use Rattle.der_core.specs.Words.{bytes_of}
use Rattle.pkcs1.specs.Words.{number_in, KeyRow, key_row, row_as, OtherRow, others_in, version_of, AnyNumber, AreSome, OtherIsValid, PrivateIsValid, other_from}
use Rattle.pkcs1.specs.declared.private_key.PrivateKeyOf.{PrivateKeyOf}
use Rattle.standard.specs.Statement.{IfPresent}
use Rattle.pkcs1_c.proofs.GivenKeys.{given_primes_valid}
use Rattle.pkcs1_c.specs.Words.{given_key, given_primes, other_prime_seen}
use Rattle.der_core.specs.declared.integer.uint.UintRef.{UintRef}
use Rattle.pkcs1_c.specs.declared.given_primes.GivenPrimes.{GivenPrimes}

option_itself : {V : Type 0} (o : Option V) → option_map (λ v. v) o ≡ o
option_itself o = grind (arith, common_steps)

-- It has the version of the primes that are given.
version_given : (o : Option GivenPrimes) → version_of o ≡ version_of (option_map given_primes o)
version_given o = grind (arith, common_steps)

-- A list that is there isn't empty.
given_option_some : (o : Option GivenPrimes) → AreSome (option_map given_primes o)
given_option_some None = tt
given_option_some (Some given) =
    omega (arith, given.some, length-map given.others.now (λ o. other_from (other_prime_seen o)))

given_all_valid : (o : Option GivenPrimes)
    → IfPresent (AllByRecursion (OtherIsValid AnyNumber)) (option_map given_primes o)
given_all_valid None = tt
given_all_valid (Some given) = given_primes_valid given.others.now

module _ (key : PrivateKeyOf UintRef GivenPrimes) where
  -- It is the row of the key with these numbers.
  pub given_row : (row : KeyRow ℕ (List (OtherRow ℕ))) → row ≡ key_row (number_in bytes_of) given_primes key
      → row_as (λ n. n) (λ others. others) row ≡ (version_of (others_in (given_key key)), given_key key)
  given_row row is =
      let same : row_as (λ n. n) (λ others. others) (key_row (number_in bytes_of) given_primes key)
      ≡ (version_of key.other_prime_infos, given_key key) = simp option_itself in
      ap (row_as (λ n. n) (λ others. others)) is ∙ same ∙ ap (λ n. (n, given_key key)) (version_given key.other_prime_infos)

  pub given_key_valid : PrivateIsValid AnyNumber (given_key key)
  given_key_valid =
      (tt, (tt, (tt, (tt, (tt, (tt, (tt, (tt, (given_option_some key.other_prime_infos, given_all_valid key.other_prime_infos)))))))))
