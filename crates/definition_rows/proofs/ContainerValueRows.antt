-- Worked rows of `ContainerValue.antt` of `pkcs8_core`: what containers hold.
use Rattle.std.proofs.Common.{ℕ, List, [], ◌∷◌, ◌≡◌, ap, option_map, refl, Option, Some, None}
use Rattle.std.specs.Borrow.{Bor}
use Rattle.der_core.specs.Words.{octets_of}
use Rattle.spki_core.specs.Words.{any_of, identifier_octets, own_octets_of}
use Rattle.spki_core.specs.declared.identifier_view.IdentifierView.{IdentifierView}
use Rattle.spki_core.specs.declared.object_identifier.ObjectIdentifier.{ObjectIdentifier}
use Rattle.pkcs8_core.specs.ContainerValue.{attributes_of, info_in, info_of, info_viewed, slice_now}
use Rattle.pkcs8_core.specs.declared.attributes.Attributes.{Attributes}
use Rattle.pkcs8_core.specs.declared.info.PrivateKeyInfoOf.{PrivateKeyInfoOf}

abbrev octets_itself : List ℕ → List ℕ
octets_itself octets = octets

container_private_key : (info : PrivateKeyInfoOf (List ℕ))
    → (info_in octets_itself info).private_key ≡ octets_of info.private_key
container_private_key info = refl

container_identifier : (info : PrivateKeyInfoOf (List ℕ))
    → (info_in octets_itself info).algorithm.oid ≡ info.algorithm.oid
container_identifier info = refl

container_parameters : (info : PrivateKeyInfoOf (List ℕ))
    → (info_in octets_itself info).algorithm.parameters ≡ option_map any_of info.algorithm.parameters
container_parameters info = refl

-- No attributes, or their octets.
abbrev AttributesAre : Option (Bor (List ℕ)) → Option (List ℕ) → Type 0
AttributesAre attributes octets =
    (info : PrivateKeyInfoOf (List ℕ)) → info.attributes ≡ attributes → (info_in octets_itself info).attributes ≡ octets

no_attributes : AttributesAre None None
no_attributes info none = ap (option_map (λ it. it.now)) none

some_attributes : AttributesAre (Some (record { ref_ptr = (0, 0); now = 1 ∷ 2 ∷ [] })) (Some (1 ∷ 2 ∷ []))
some_attributes info some = ap (option_map (λ it. it.now)) some

container_attributes : (held : Attributes) → attributes_of held ≡ held.bytes.now
container_attributes held = refl

slice_now_is : slice_now (record { ref_ptr = (3, 4); now = 1 ∷ [] }) ≡ 1 ∷ []
slice_now_is = refl

-- Whose octets the identifier has.
container_owned : (info : PrivateKeyInfoOf ObjectIdentifier)
    → (info_of info).algorithm.oid ≡ own_octets_of info.algorithm.oid
container_owned info = refl

container_viewed : (info : PrivateKeyInfoOf IdentifierView)
    → (info_viewed info).algorithm.oid ≡ identifier_octets info.algorithm.oid
container_viewed info = refl
