-- Worked rows of `SourcesSinks.antt` of `der_core`: what a source with known bytes gives, what a sink takes, and how
-- failed calls are counted.
use Rattle.std.proofs.Common.{ℕ, List, [], ◌++◌, ◌≡◌, ◌≤◌, ◌<◌, ◌+◌, arith, length, refl, take, Ok, Err, Some}
use Rattle.std.specs.Prelude.{◌↔◌}
use Rattle.der_core.specs.SourcesSinks.{AppendsFront, CountsFailure, GivesAll, GivesMore, GivesSome, OneFailed}

module _ (old new bytes : List ℕ) where
  all_given : GivesAll (Some old) (Some new) bytes ↔ ((old ≡ bytes ++ new) × (new ≡ []))
  all_given = (λ p. p, λ p. p)

  front_taken : AppendsFront (Some old) (Some new) bytes ↔ ((n : ℕ) × (new ≡ old ++ take n bytes))
  front_taken = (λ p. p, λ p. p)

  more_given : (most piece : ℕ) → GivesMore most piece (Some old) (Some new)
      ↔ ((came : List ℕ) × (old ≡ came ++ new) × (most < length came) × (length came ≤ most + piece))
  more_given most piece = (λ p. p, λ p. p)

  some_given : (most : ℕ) → GivesSome most (Some old) (Some new)
      ↔ ((came : List ℕ) × (old ≡ came ++ new) × (0 < length came) × (length came ≤ most))
  some_given most = (λ p. p, λ p. p)

one_failed : (OneFailed 0 1) × OneFailed 18446744073709551615 18446744073709551615
one_failed = (refl, refl)

none_failed : OneFailed 7 7 → ⊥
none_failed p = omega (arith, p)

two_failed : OneFailed 7 9 → ⊥
two_failed p = omega (arith, p)

failure_counted : (old new v : ℕ) → (CountsFailure {E = ℕ} old new (Ok v) ↔ (new ≡ old))
    × (CountsFailure {T = ℕ} old new (Err v) ↔ OneFailed old new)
failure_counted old new v = ((λ p. p, λ p. p), (λ p. p, λ p. p))
