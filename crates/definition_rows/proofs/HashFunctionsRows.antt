-- Worked rows of `HashFunctions.antt` of `pkcs1_params`: which hash function parameters use, and which mean the same.
use Rattle.std.proofs.Common.{ℕ, List, ◌≡◌, codes, refl, Option, Some, None}
use Rattle.std.specs.Prelude.{◌↔◌}
use Rattle.pkcs1_params.specs.HashFunctions.{AreSameMask, AreSameOaep, AreSamePss, UsesHash, hash_algorithm}
use Rattle.spki_core.specs.Words.{AreSameHash, IsHash}
use Rattle.standard.specs.Hex.{digit, hex}
use Rattle.standard.specs.Statement.{Algorithm, OaepParameters, PssParameters, TagAndContents, mgf1_sha1}

sha256_identifier : hash_algorithm 1 ≡ hex (codes "608648016503040201")
unfolding hex digit
sha256_identifier = refl

module _ (hash : Algorithm TagAndContents) (under : List ℕ) (inner : Algorithm TagAndContents) where
  abbrev mask_of_hash : Option (Algorithm TagAndContents) → Algorithm (Algorithm TagAndContents)
  mask_of_hash parameters = record { oid = under; parameters = parameters }

  hash_used : (oid : List ℕ) → UsesHash oid hash (mask_of_hash (Some inner))
      ↔ (IsHash oid hash × (under ≡ mgf1_sha1.oid) × IsHash oid inner)
  hash_used oid = (λ p. p, λ p. p)

  no_hash_under_mask : (oid : List ℕ) → UsesHash oid hash (mask_of_hash None) → ⊥
  no_hash_under_mask oid p = p.2

  same_masks : (oid : List ℕ) (other : Algorithm TagAndContents)
      → AreSameMask (mask_of_hash (Some inner)) (record { oid = oid; parameters = Some other })
      ↔ ((under ≡ oid) × AreSameHash inner other)
  same_masks oid other = (λ p. p, λ p. p)

  same_bare_masks : (oid : List ℕ) (parameters : Option (Algorithm TagAndContents))
      → AreSameMask (mask_of_hash None) (record { oid = oid; parameters = parameters })
      ↔ ((under ≡ oid) × (parameters ≡ None))
  same_bare_masks oid parameters = (λ p. p, λ p. p)

  no_mask_for_some : (oid : List ℕ) → AreSameMask (mask_of_hash (Some inner)) (record { oid = oid; parameters = None }) → ⊥
  no_mask_for_some oid p = p.1

same_pss : (a b : PssParameters) → AreSamePss a b ↔ (AreSameHash a.hash b.hash × AreSameMask a.mask_gen b.mask_gen
    × (a.salt_len ≡ b.salt_len) × (a.trailer_field ≡ b.trailer_field))
same_pss a b = (λ p. p, λ p. p)

same_oaep : (a b : OaepParameters) → AreSameOaep a b
    ↔ (AreSameHash a.hash b.hash × AreSameMask a.mask_gen b.mask_gen × (a.p_source ≡ b.p_source))
same_oaep a b = (λ p. p, λ p. p)
