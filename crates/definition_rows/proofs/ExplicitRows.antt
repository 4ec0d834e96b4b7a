-- Worked rows of `Explicit.antt` of `spki_core`: values inside explicit tags, and fields with defaults.
use Rattle.std.proofs.Common.{ℕ, List, [], ◌∷◌, ◌++◌, ◌≡◌, ◌≤◌, ◌+◌, ◌⊎◌, refl}
use Rattle.std.specs.Prelude.{◌↔◌}
use Rattle.der_core.specs.Words.{IsNext, Tlv}
use Rattle.spki_core.specs.Explicit.{FieldRead, HasNumbered, numbered_map, written_numbered}
use Rattle.standard.specs.Statement.{length_octets}

module _ {V : Type 0} (Encoding : V → List ℕ → Type 0) (default value : V) (n : ℕ) (bytes rest : List ℕ) where
  field_read_or_left_out : FieldRead n Encoding default bytes value rest
      ↔ (((IsNext (160 + n) bytes → ⊥) × (value ≡ default) × (rest ≡ bytes))
      ⊎ ((front later : List ℕ) × Tlv (160 + n) (Encoding value) front × (later ≡ rest) × (bytes ≡ front ++ later)))
  field_read_or_left_out = (λ p. p, λ p. p)

  number_and_value : (Is : V → Type 0) → HasNumbered Is (record { number = n; value = value }) ↔ ((n ≤ 30) × Is value)
  number_and_value Is = (λ p. p, λ p. p)

number_kept : (f : ℕ → List ℕ) (n v : ℕ)
    → numbered_map f (record { number = n; value = v }) ≡ record { number = n; value = f v }
number_kept f n v = refl

tag_of_number : written_numbered (λ (b : ℕ). b ∷ []) (record { number = 2; value = 7 }) ≡ 162 ∷ 1 ∷ 7 ∷ []
unfolding length_octets
tag_of_number = refl
