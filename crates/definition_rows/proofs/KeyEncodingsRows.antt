-- Worked rows of `KeyEncodings.antt` of `pkcs1`: why keys aren't read, and why no document of one is made.
use Rattle.std.proofs.Common.{ℕ, List, ◌≡◌, ◌⊎◌}
use Rattle.std.specs.Prelude.{◌↔◌}
use Rattle.der_core.specs.Words.{TellsOfBytes, another, encode_error, no_encoding, no_room, too_long}
use Rattle.der_core.specs.declared.error.Error.{Error}
use Rattle.der_core.specs.declared.error.ErrorKind.{ErrorKind}
use Rattle.der_core.specs.declared.error.ErrorKind.TheVariants.{OutOfMemory}
use Rattle.pkcs1.specs.KeyEncodings.{Rejects, Unmade, Withholds}
use Rattle.pkcs1_params.specs.declared.error.Error.TheVariants as error

module _ {V : Type 0} (Is : V → Type 0) (Encoding : V → List ℕ → Type 0) (v : V) (kind : ErrorKind) (e : Error) where
  key_rejected : (bytes : List ℕ) (asked : Type 0) → Rejects Encoding bytes asked (error.Asn1 e)
      ↔ (((e.kind ≡ OutOfMemory) × asked) ⊎ (TellsOfBytes e.kind × ((w : V) → Encoding w bytes → ⊥)))
  key_rejected bytes asked = (λ p. p, λ p. p)

  only_so_rejected : (bytes : List ℕ) (asked : Type 0) → (Rejects Encoding bytes asked error.Crypto → ⊥)
      × (Rejects Encoding bytes asked error.KeyMalformed → ⊥) × (Rejects Encoding bytes asked error.Version → ⊥)
  only_so_rejected bytes asked = ((λ p. p), (λ p. p), (λ p. p))

  unmade : (Unmade Is Encoding v kind no_encoding ↔ (Is v → ⊥))
      × (Unmade Is Encoding v kind too_long ↔ (Is v × ((bytes : List ℕ) → Encoding v bytes → ⊥)))
      × (Unmade Is Encoding v kind no_room → ⊥)
      × (Unmade Is Encoding v kind another ↔ ((kind ≡ OutOfMemory) × (bytes : List ℕ) × Encoding v bytes))
  unmade = ((λ p. p, λ p. p), (λ p. p, λ p. p), (λ p. p), (λ p. p, λ p. p))

  withheld : (Withholds Is Encoding v (error.Asn1 e) ↔ Unmade Is Encoding v e.kind (encode_error e.kind))
      × (Withholds Is Encoding v error.Crypto → ⊥)
  withheld = ((λ p. p, λ p. p), (λ p. p))
