-- Worked rows of `OaepValue.antt` of `pkcs1_params`: what parameters hold, which of them are copied without memory, and
-- for which labels there is an encoding.
use Rattle.spki_core.specs.Words.{any_of, algorithm_in, identifier_octets, own_octets_of}
use Rattle.std.proofs.Common.{ℕ, List, [], ◌∷◌, ◌≡◌, codes, inl, inr, length, refl, subst, sym, Some}
use Rattle.der_core.specs.Words.{AreBytes}
use Rattle.spki_core.specs.declared.any.AnyRef.{AnyRef}
use Rattle.spki_core.specs.declared.identifier_view.IdentifierView.{IdentifierView}
use Rattle.spki_core.specs.declared.object_identifier.ObjectIdentifier.{ObjectIdentifier}
use Rattle.pkcs1_params.specs.OaepValue.{IsBareOaep, LabelFits, NoLabelFits, OwnedOaepAllocates, labelled, oaep_in, oaep_of, oaep_viewed, oaep_with}
use Rattle.pkcs1_params.specs.declared.oaep.OaepParamsOf.{OaepParamsOf}
use Rattle.standard.specs.Hex.{digit, hex}
use Rattle.standard.specs.Statement.{Algorithm, Fields, IfPresent, IsBare, IsOaep, OaepEncoding, OaepParameters, TagAndContents, empty_label, length_octets, mgf1_sha1, oaep_fields, sha1}

-- == What they hold ==
module _ (p : OaepParamsOf (List ℕ) TagAndContents) where
  abbrev oaep_held : OaepParameters
  oaep_held = oaep_in (λ octets. octets) (λ any. any) p

  oaep_hash : oaep_held.hash.oid ≡ p.hash.oid
  oaep_hash = refl

  oaep_mask_gen : oaep_held.mask_gen.oid ≡ p.mask_gen.oid
  oaep_mask_gen = refl

  oaep_source : oaep_held.p_source.oid ≡ p.p_source.oid
  oaep_source = refl

oaep_owned : (p : OaepParamsOf ObjectIdentifier AnyRef) → (oaep_of p).p_source.oid ≡ own_octets_of p.p_source.oid
oaep_owned p = refl

oaep_owned_identifiers : (p : OaepParamsOf ObjectIdentifier TagAndContents)
    → (oaep_with (λ any. any) p).mask_gen.oid ≡ own_octets_of p.mask_gen.oid
oaep_owned_identifiers p = refl

oaep_view : (p : OaepParamsOf IdentifierView AnyRef) → (oaep_viewed p).hash.oid ≡ identifier_octets p.hash.oid
oaep_view p = refl

-- == Labels ==
abbrev null_of : List ℕ → Algorithm TagAndContents
null_of oid = record { oid = oid; parameters = Some (record { tag = 5; contents = [] }) }

with_label : labelled (1 ∷ []) (7 ∷ 8 ∷ []) ≡ record {
  hash = null_of (1 ∷ []);
  mask_gen = record { oid = mgf1_sha1.oid; parameters = Some (null_of (1 ∷ [])) };
  p_source = record { oid = empty_label.oid; parameters = Some (record { tag = 4; contents = 7 ∷ 8 ∷ [] }) };
}
with_label = refl

default_label : labelled sha1.oid [] ≡ record { hash = sha1; mask_gen = mgf1_sha1; p_source = empty_label }
default_label = refl

-- Never both.
label_fits_or_not : (oid label : List ℕ) (n : ℕ) → AreBytes label → length label ≡ n → LabelFits oid n
    → NoLabelFits oid n → ⊥
label_fits_or_not oid label n bytes is fits none = none label bytes is (fits label bytes is).0 (fits label bytes is).1

fits_by : (oid : List ℕ) (n : ℕ)
    → ((label : List ℕ) → AreBytes label → length label ≡ n → (b : List ℕ) × OaepEncoding (labelled oid label) b)
    → LabelFits oid n
fits_by oid n fits = fits

-- == Which need no memory ==
-- An algorithm whose parameters have an octet.
abbrev oaep_null_with_octet : Algorithm TagAndContents
oaep_null_with_octet = record { oid = 1 ∷ []; parameters = Some (record { tag = 5; contents = 0 ∷ [] }) }

abbrev oaep_sample : Algorithm TagAndContents → Algorithm TagAndContents → Algorithm TagAndContents → OaepParameters
oaep_sample hash inner source =
    record { hash = hash; mask_gen = record { oid = 1 ∷ []; parameters = Some inner }; p_source = source }

oaep_bare : IsBareOaep (oaep_sample sha1 sha1 empty_label)
oaep_bare = (refl, refl, refl)

oaep_octet_in_hash : IsBareOaep (oaep_sample oaep_null_with_octet sha1 empty_label) → ⊥
oaep_octet_in_hash p = let same = p.0 in cc

oaep_octet_in_mask : IsBareOaep (oaep_sample sha1 oaep_null_with_octet empty_label) → ⊥
oaep_octet_in_mask p = let same = p.1 in cc

oaep_octet_in_source : IsBareOaep (oaep_sample sha1 sha1 oaep_null_with_octet) → ⊥
oaep_octet_in_source p = let same = p.2 in cc

abbrev OaepMaskIsBare : Algorithm (Algorithm TagAndContents) → Type 0
OaepMaskIsBare mask_gen = IfPresent IsBare mask_gen.parameters

-- Contents without octets have the defaults alone.
oaep_defaults_are_bare : (p : OaepParameters) → Fields (oaep_fields p) [] → IsBareOaep p
oaep_defaults_are_bare p (inl (hash, inl (mask, inl (source, rest)))) =
    (subst IsBare (sym hash) refl, subst OaepMaskIsBare (sym mask) refl, subst IsBare (sym source) refl)
oaep_defaults_are_bare p (inl (hash, inl (mask, inr (later, is, rest)))) = cc
oaep_defaults_are_bare p (inl (hash, inr (later, is, rest))) = cc
oaep_defaults_are_bare p (inr (later, is, rest)) = cc

oaep_defaults_take_no_memory : OwnedOaepAllocates [] → ⊥
oaep_defaults_take_no_memory p = p.3 (oaep_defaults_are_bare p.0 p.2)

oaep_octet_takes_memory : IsOaep (oaep_sample sha1 sha1 oaep_null_with_octet)
    → OwnedOaepAllocates (hex (codes "a110300e060101300906052b0e03021a0500a2083006060101050100"))
unfolding hex digit length_octets
oaep_octet_takes_memory is = (
  oaep_sample sha1 sha1 oaep_null_with_octet,
  is,
  inl (refl, inr (hex (codes "a2083006060101050100"), refl, inr ([], refl, refl))),
  oaep_octet_in_source,
)

oaep_view_tags : (p : OaepParamsOf IdentifierView AnyRef)
    → (oaep_viewed p).p_source ≡ algorithm_in identifier_octets any_of p.p_source
oaep_view_tags p = refl

oaep_owned_tags : (p : OaepParamsOf ObjectIdentifier AnyRef)
    → (oaep_of p).p_source ≡ algorithm_in own_octets_of any_of p.p_source
oaep_owned_tags p = refl

labels_fit : (oid : List ℕ) (n : ℕ) → LabelFits oid n → (label : List ℕ) → AreBytes label → length label ≡ n
    → (b : List ℕ) × OaepEncoding (labelled oid label) b
labels_fit oid n fits label is counted = fits label is counted

no_label_fits : (oid : List ℕ) (n : ℕ) → ((label b : List ℕ) → AreBytes label → length label ≡ n
    → OaepEncoding (labelled oid label) b → ⊥) → NoLabelFits oid n
no_label_fits oid n none label is counted b encodes = none label b is counted encodes
