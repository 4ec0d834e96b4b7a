-- Worked rows of `PssValue.antt` of `pkcs1_params`: what parameters hold, and which of them are copied without memory.
use Rattle.spki_core.specs.Words.{any_of, algorithm_in, identifier_octets, own_octets_of}
use Rattle.std.proofs.Common.{ℕ, List, [], ◌∷◌, ◌≡◌, codes, inl, inr, refl, subst, sym, Some}
use Rattle.spki_core.specs.declared.any.AnyRef.{AnyRef}
use Rattle.spki_core.specs.declared.identifier_view.IdentifierView.{IdentifierView}
use Rattle.spki_core.specs.declared.object_identifier.ObjectIdentifier.{ObjectIdentifier}
use Rattle.pkcs1_params.specs.PssValue.{IsBarePss, OwnedPssAllocates, pss_in, pss_of, pss_viewed, pss_with}
use Rattle.pkcs1_params.specs.declared.pss.PssParamsOf.{PssParamsOf}
use Rattle.standard.specs.Hex.{digit, hex}
use Rattle.standard.specs.Statement.{Algorithm, Fields, IfPresent, IsBare, IsPss, PssParameters, TagAndContents, length_octets, pss_fields, sha1}

-- == What they hold ==
module _ (p : PssParamsOf (List ℕ) TagAndContents) where
  abbrev pss_held : PssParameters
  pss_held = pss_in (λ octets. octets) (λ any. any) p

  pss_hash : pss_held.hash.oid ≡ p.hash.oid
  pss_hash = refl

  pss_mask_gen : pss_held.mask_gen.oid ≡ p.mask_gen.oid
  pss_mask_gen = refl

  pss_salt_len : pss_held.salt_len ≡ p.salt_len
  pss_salt_len = refl

  pss_trailer_field : pss_held.trailer_field ≡ 1
  pss_trailer_field = refl

pss_owned : (p : PssParamsOf ObjectIdentifier AnyRef) → (pss_of p).hash.oid ≡ own_octets_of p.hash.oid
pss_owned p = refl

pss_owned_identifiers : (p : PssParamsOf ObjectIdentifier TagAndContents)
    → (pss_with (λ any. any) p).mask_gen.oid ≡ own_octets_of p.mask_gen.oid
pss_owned_identifiers p = refl

pss_view : (p : PssParamsOf IdentifierView AnyRef) → (pss_viewed p).hash.oid ≡ identifier_octets p.hash.oid
pss_view p = refl

-- == Which need no memory ==
-- A hash function whose parameters have an octet.
abbrev pss_null_with_octet : Algorithm TagAndContents
pss_null_with_octet = record { oid = 1 ∷ []; parameters = Some (record { tag = 5; contents = 0 ∷ [] }) }

abbrev pss_sample : Algorithm TagAndContents → Algorithm TagAndContents → PssParameters
pss_sample hash inner = record {
  hash = hash;
  mask_gen = record { oid = 1 ∷ []; parameters = Some inner };
  salt_len = 20;
  trailer_field = 1;
}

pss_bare : IsBarePss (pss_sample sha1 sha1)
pss_bare = (refl, refl)

pss_octet_in_hash : IsBarePss (pss_sample pss_null_with_octet sha1) → ⊥
pss_octet_in_hash p = let same = p.0 in cc

pss_octet_in_mask : IsBarePss (pss_sample sha1 pss_null_with_octet) → ⊥
pss_octet_in_mask p = let same = p.1 in cc

abbrev PssMaskIsBare : Algorithm (Algorithm TagAndContents) → Type 0
PssMaskIsBare mask_gen = IfPresent IsBare mask_gen.parameters

-- Contents without octets have the defaults alone.
pss_defaults_are_bare : (p : PssParameters) → Fields (pss_fields p) [] → IsBarePss p
pss_defaults_are_bare p (inl (hash, inl (mask, rest))) =
    (subst IsBare (sym hash) refl, subst PssMaskIsBare (sym mask) refl)
pss_defaults_are_bare p (inl (hash, inr (later, is, rest))) = cc
pss_defaults_are_bare p (inr (later, is, rest)) = cc

pss_defaults_take_no_memory : OwnedPssAllocates [] → ⊥
pss_defaults_take_no_memory p = p.3 (pss_defaults_are_bare p.0 p.2)

pss_octet_takes_memory : IsPss (pss_sample pss_null_with_octet sha1)
    → OwnedPssAllocates (hex (codes "a0083006060101050100a110300e060101300906052b0e03021a0500"))
unfolding hex digit length_octets
pss_octet_takes_memory is = (
  pss_sample pss_null_with_octet sha1,
  is,
  inr (hex (codes "a110300e060101300906052b0e03021a0500"), refl, inr ([], refl, inl (refl, inl (refl, refl)))),
  pss_octet_in_hash,
)

pss_view_tags : (p : PssParamsOf IdentifierView AnyRef)
    → (pss_viewed p).hash ≡ algorithm_in identifier_octets any_of p.hash
pss_view_tags p = refl

pss_owned_tags : (p : PssParamsOf ObjectIdentifier AnyRef) → (pss_of p).hash ≡ algorithm_in own_octets_of any_of p.hash
pss_owned_tags p = refl
