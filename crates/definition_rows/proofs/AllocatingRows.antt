-- Worked rows of `Allocating.antt` of `pkcs1` and of `spki_core`: which encodings may ask for memory.
use Rattle.std.proofs.Common.{ℕ, List, ◌++◌, ◌≡◌, ◌<◌, ◌+◌}
use Rattle.std.specs.Prelude.{◌↔◌}
use Rattle.der_core.specs.Words.{AllocatesAtFront, AllocatesBehind, AllocatesLast, BeginsWithEncoding, Tlv, tlv}
use Rattle.pkcs1.specs.Allocating.{MayAllocate, NumberPrints, OthersFollow, OwnedKeyAllocates, OwnedPublicKeyAllocates, VersionPrints}
use Rattle.spki_core.specs.Allocating.{AlgorithmAllocates, AllocatesForParameters, FieldAllocates, NothingAskedAlone}
use Rattle.standard.specs.Statement.{IsIdentifier, integer}

module _ (n : ℕ) (bytes : List ℕ) (asks : List ℕ → Type 0) where
  version_encoded : VersionPrints n bytes ↔ ((m : ℕ) × (m ≡ n) × (m < 2) × (bytes ≡ integer m))
  version_encoded = (λ p. p, λ p. p)

  number_encoded : NumberPrints n bytes ↔ ((m : ℕ) × (m ≡ n) × Unit {0} × (bytes ≡ integer m))
  number_encoded = (λ p. p, λ p. p)

  key_asks : (MayAllocate bytes ↔ AllocatesAtFront (Tlv 48 OthersFollow) bytes)
      × (OwnedKeyAllocates bytes
      ↔ AllocatesAtFront (Tlv 48 (AllocatesBehind VersionPrints (BeginsWithEncoding NumberPrints))) bytes)
      × (OwnedPublicKeyAllocates bytes ↔ AllocatesAtFront (Tlv 48 (BeginsWithEncoding NumberPrints)) bytes)
  key_asks = ((λ p. p, λ p. p), (λ p. p, λ p. p), (λ p. p, λ p. p))

  parameters_ask : AllocatesForParameters asks bytes ↔ ((v : List ℕ) × ((front rest : List ℕ)
      × ((oid : List ℕ) × (oid ≡ v) × IsIdentifier oid × (front ≡ tlv 6 oid)) × AllocatesLast asks rest
      × (bytes ≡ front ++ rest)))
  parameters_ask = (λ p. p, λ p. p)

  field_asks : (FieldAllocates n asks bytes ↔ Tlv (160 + n) (AllocatesAtFront asks) bytes)
      × (AlgorithmAllocates asks bytes ↔ Tlv 48 (AllocatesForParameters asks) bytes)
  field_asks = ((λ p. p, λ p. p), (λ p. p, λ p. p))

  asked_never_alone : NothingAskedAlone asks ↔ ((oid b : List ℕ) → IsIdentifier oid → b ≡ tlv 48 (tlv 6 oid)
      → AllocatesAtFront asks b → ⊥)
  asked_never_alone = (λ p. p, λ p. p)
