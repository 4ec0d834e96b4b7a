-- Worked rows of `OtherPrimesHeld.antt` of `pkcs1`: bytes that hold the encodings of other primes.
use Rattle.std.proofs.Common.{ℕ, List, ◌≡◌, length, Some}
use Rattle.std.specs.Prelude.{◌↔◌}
use Rattle.der_core.specs.Words.{value_in}
use Rattle.pkcs1.specs.KeyReadings.{number_front, primes_read}
use Rattle.pkcs1.specs.Keys.{OtherRow}
use Rattle.pkcs1.specs.OtherPrimesHeld.{HoldsPrimes}

primes_held_in : (bytes : List ℕ) (left : ℕ) → HoldsPrimes bytes left ↔ ((others : List (OtherRow ℕ))
    × (value_in (primes_read number_front bytes) ≡ Some others) × (length others ≡ left))
primes_held_in bytes left = (λ p. p, λ p. p)
