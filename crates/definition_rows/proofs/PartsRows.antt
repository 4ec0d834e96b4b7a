-- Worked rows of `Parts.antt` of `der_core`: OPTIONAL parts, lists of items, and which parts may ask for memory.
use Rattle.std.proofs.Common.{ℕ, List, [], ◌∷◌, ◌++◌, ◌≡◌, ◌⊎◌, Some, None}
use Rattle.std.specs.Prelude.{◌↔◌}
use Rattle.der_core.specs.Parts.{AllocatesInParts, IsNext, Optional, OptionalRead}

module _ {V : Type 0} (Encoding : V → List ℕ → Type 0) (v w : V) (bytes rest : List ℕ) where
  optional_part : (Optional Encoding None bytes ↔ (bytes ≡ [])) × (Optional Encoding (Some v) bytes ↔ Encoding v bytes)
  optional_part = ((λ p. p, λ p. p), (λ p. p, λ p. p))

  octet_next : (octet : ℕ) → IsNext octet bytes ↔ ((later : List ℕ) × (bytes ≡ octet ∷ later))
  octet_next octet = (λ p. p, λ p. p)

  optional_part_absent : (octet : ℕ) → OptionalRead octet Encoding bytes None rest
      ↔ (((later : List ℕ) × (bytes ≡ octet ∷ later) → ⊥) × (rest ≡ bytes))
  optional_part_absent octet = (λ p. p, λ p. p)

  optional_part_read : (octet : ℕ) → OptionalRead octet Encoding bytes (Some v) rest
      ↔ ((front later : List ℕ) × Encoding v front × (later ≡ rest) × (bytes ≡ front ++ later))
  optional_part_read octet = (λ p. p, λ p. p)

  parts_ask : (first later : List ℕ → Type 0) → AllocatesInParts Encoding first later bytes
      ↔ (((front more : List ℕ) × (bytes ≡ front ++ more) × first front)
      ⊎ ((a : V) × ((front more : List ℕ) × Encoding a front × later more × (bytes ≡ front ++ more))))
  parts_ask first later = (λ p. p, λ p. p)
