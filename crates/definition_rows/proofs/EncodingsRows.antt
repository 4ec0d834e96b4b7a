-- Worked rows of `Encodings.antt` of `der_core`: what relations of bytes are made of.
use Rattle.std.proofs.Common.{ℕ, List, [], ◌∷◌, ◌++◌, ◌≡◌, arith}
use Rattle.std.specs.Prelude.{◌↔◌}
use Rattle.der_core.specs.Encodings.{AreBytes, HasAtMostOne, InFront, IsExactly, JoinsParts, SplitsInto}

both_ends : AreBytes (0 ∷ 255 ∷ [])
both_ends = (omega arith, (omega arith, tt))

byte_256 : AreBytes (7 ∷ 256 ∷ []) → ⊥
byte_256 p = omega (arith, p.1.0)

module _ (A B : List ℕ → Type 0) (bytes : List ℕ) where
  exactly : (wanted : List ℕ) → IsExactly wanted bytes ↔ (bytes ≡ wanted)
  exactly wanted = (λ p. p, λ p. p)

  splits : SplitsInto A B bytes ↔ ((front rest : List ℕ) × A front × B rest × (bytes ≡ front ++ rest))
  splits = (λ p. p, λ p. p)

  no_part_joined : JoinsParts [] bytes ↔ (bytes ≡ [])
  no_part_joined = (λ p. p, λ p. p)

  part_joined : JoinsParts (A ∷ B ∷ []) bytes ↔ ((front rest : List ℕ) × A front
      × ((second none : List ℕ) × B second × (none ≡ []) × (rest ≡ second ++ none)) × (bytes ≡ front ++ rest))
  part_joined = (λ p. p, λ p. p)

  one_at_most : HasAtMostOne A ↔ ((x y : List ℕ) → A x → A y → x ≡ y)
  one_at_most = (λ p. p, λ p. p)

value_in_front : {V : Type 0} (Encoding : V → List ℕ → Type 0) (v : V) (rest bytes : List ℕ)
    → InFront Encoding (v, rest) bytes ↔ ((front : List ℕ) × (bytes ≡ front ++ rest) × Encoding v front)
value_in_front Encoding v rest bytes = (λ p. p, λ p. p)
