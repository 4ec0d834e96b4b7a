-- Private keys are read as their spellings mean, if their numbers are.
use Rattle.std.proofs.Common.{ℕ, Bool, true, false, List, [], ◌∷◌, ◌≡◌, ◌==◌, map, refl, sym, ◌∙◌, Option, Some, None, Ok, Err, if◌then◌else◌}
use Rattle.der_core.specs.declared.error.ErrorKind.TheVariants.{Value}
use Rattle.der_core.specs.Words.{reading_alike, chain_alike, front_alike, front_row_alike, items_alike, made_alike, optional_alike, row_alike, tagged_alike, ReadsAlike, ReadsFrontAlike, FrontReading, Reading, ended, front_done, made, no_parts, tagged, ◌>>=◌}
use Rattle.der_core.specs.Tags as tags
use Rattle.pkcs1.specs.KeyReadings.{front_read, lists_none, others_if_agreed, others_read, primes_read, private_key_read, version_read}
use Rattle.pkcs1.specs.Keys.{OtherRow, eight_numbers_before, front_as, other_as, others_as, private_as, version_of}

-- The version of a key, and whether its list of other primes is empty.
abbrev SpelledPrimes : Type 0 → Type 0
SpelledPrimes N = Option (List (OtherRow N))

pub version_as : {N M : Type 0} (f : N → M) (primes : SpelledPrimes N)
    → version_of (others_as f primes) ≡ version_of primes
version_as f None = refl
version_as f (Some others) = refl

lists_as : {N M : Type 0} (f : N → M) (primes : SpelledPrimes N) → lists_none (others_as f primes) ≡ lists_none primes
lists_as f None = refl
lists_as f (Some []) = refl
lists_as f (Some (x ∷ xs)) = refl

-- What is behind the list, by whether it agrees with the version, and whether it is empty.
abbrev others_ending : {N : Type 0} → SpelledPrimes N → Bool → Bool → Reading (SpelledPrimes N)
others_ending primes agrees none c =
    if agrees then (if none then Err (Value tags.sequence_tag) else ended primes c) else Err (Value tags.integer_tag)

module _ {S V : Type 0} {at : FrontReading S} {means : S → V} {old : FrontReading V}
    (law : ReadsFrontAlike at means old) where
  pub primes_alike : ReadsAlike (primes_read at) (map (other_as means)) (primes_read old)
  primes_alike = items_alike (tagged_alike (row_alike law (row_alike law (row_alike law (reading_alike no_parts)))) tags.sequence_tag)

  -- The list behind a version.
  others_if_agreed_alike : (v : ℕ) (primes : SpelledPrimes S)
      → ReadsAlike (others_if_agreed v primes) (others_as means) (others_if_agreed v (others_as means primes))
  others_if_agreed_alike v primes = record {
    same = λ c.
        go c (v == version_of primes) (lists_none primes)
        ∙ (λ i. others_ending (others_as means primes) (v == sym (version_as means primes) i)
        (sym (lists_as means primes) i) c);
  }
    where
      end : (c : List ℕ) → (ended primes c >>= λ p. Ok (others_as means p)) ≡ ended (others_as means primes) c
      end [] = refl
      end (x ∷ xs) = refl

      go : (c : List ℕ) (agrees none : Bool)
          → (others_ending primes agrees none c >>= λ p. Ok (others_as means p))
          ≡ others_ending (others_as means primes) agrees none c
      go c true true = refl
      go c true false = end c
      go c false none = refl

  others_alike : (v : ℕ) → ReadsAlike (others_read at v) (others_as means) (others_read old v)
  others_alike v =
      chain_alike (optional_alike (tagged_alike primes_alike tags.sequence_tag) 48) (others_if_agreed v)
      (others_if_agreed_alike v)

  pub fronts_alike : ReadsFrontAlike (front_read at) (front_as means) (front_read old)
  fronts_alike =
      front_row_alike (front_alike (tagged tags.integer_tag version_read)) (front_row_alike law (front_row_alike law
      (front_row_alike law (front_row_alike law (front_row_alike law (front_row_alike law (front_row_alike law
      (front_row_alike law (front_alike front_done)))))))))

  pub private_alike : ReadsAlike (private_key_read at) (private_as means) (private_key_read old)
  private_alike =
      chain_alike fronts_alike (λ front. made (eight_numbers_before front.1) (others_read old front.0))
      (λ front. made_alike (others_alike front.0) (eight_numbers_before front.1)
      (eight_numbers_before (front_as means front).1)
      (private_as means) (λ primes. refl))
