-- Worked rows of `Integer.antt` of `der_core`: which octets are those of a number.
use Rattle.std.proofs.Common.{ℕ, List, [], ◌∷◌, ◌≡◌, ◌≤◌, ◌<◌, ◌⊎◌, ◌^◌, arith, inl, inr, length, refl}
use Rattle.std.specs.Int.Digits.{number_from_digits}
use Rattle.std.specs.Prelude.{◌↔◌, slice_index}
use Rattle.der_core.specs.Encodings.{AreBytes}
use Rattle.der_core.specs.Integer.{AreCanonicalOf, EncodesNumbers, HoldsNumber, IsBitLength, IsCanonical}
use Rattle.standard.specs.Statement.{integer}

module _ (bytes : List ℕ) where
  canonical : IsCanonical bytes ↔ ((bytes ≡ 0 ∷ []) ⊎ (AreBytes bytes × (0 < slice_index bytes 0)))
  canonical = (λ p. p, λ p. p)

  canonical_of : (x : List ℕ) → AreCanonicalOf bytes x
      ↔ ((number_from_digits 256 x ≡ number_from_digits 256 bytes) × IsCanonical x)
  canonical_of x = (λ p. p, λ p. p)

  number_octets_held : HoldsNumber bytes ↔ ((0 < length bytes) × (1 < length bytes → 0 < slice_index bytes 0)
      × ((i : ℕ) → slice_index bytes i < 256))
  number_octets_held = (λ p. p, λ p. p)

zero_is_canonical : IsCanonical (0 ∷ [])
zero_is_canonical = inl refl

zero_in_front : IsCanonical (0 ∷ 1 ∷ []) → ⊥
zero_in_front (inl e) = cc
zero_in_front (inr p) = omega (arith, p.1)

bit_length : (n bits : ℕ) → IsBitLength n bits ↔ ((n < 2 ^ bits) × ((fewer : ℕ) → n < 2 ^ fewer → bits ≤ fewer))
bit_length n bits = (λ p. p, λ p. p)

module _ {X V : Type 0} (Grammar : V → List ℕ → Type 0) (value : X → V) (octets : X → List ℕ) where
  numbers_encoded : EncodesNumbers Grammar value octets
      ↔ ((x : X) (bytes : List ℕ) → Grammar (value x) bytes ↔ (bytes ≡ integer (number_from_digits 256 (octets x))))
  numbers_encoded = (λ p. p, λ p. p)
