-- Worked rows of `AlgorithmValue.antt` of `spki_core`: what algorithm identifiers hold.
use Rattle.std.proofs.Common.{ℕ, List, ◌≡◌, option_map, refl}
use Rattle.spki_core.specs.AlgorithmValue.{algorithm_in, algorithm_of, algorithm_with, mask_gen_in, mask_gen_of, viewed_with}
use Rattle.spki_core.specs.Words.{any_of, identifier_octets, own_octets_of}
use Rattle.spki_core.specs.declared.algorithm_identifier.AlgorithmIdentifierOf.{AlgorithmIdentifierOf}
use Rattle.spki_core.specs.declared.any.AnyRef.{AnyRef}
use Rattle.spki_core.specs.declared.identifier_view.IdentifierView.{IdentifierView}
use Rattle.spki_core.specs.declared.object_identifier.ObjectIdentifier.{ObjectIdentifier}

algorithm_parts_held : {O X V : Type 0} (octets : O → List ℕ) (value : X → V) (a : AlgorithmIdentifierOf O X)
    → ((algorithm_in octets value a).oid ≡ octets a.oid)
    × ((algorithm_in octets value a).parameters ≡ option_map value a.parameters)
algorithm_parts_held octets value a = (refl, refl)

algorithm_owned : (a : AlgorithmIdentifierOf ObjectIdentifier AnyRef)
    → ((algorithm_of a).oid ≡ own_octets_of a.oid) × ((algorithm_of a).parameters ≡ option_map any_of a.parameters)
    × ((algorithm_with any_of a).oid ≡ own_octets_of a.oid)
algorithm_owned a = (refl, refl, refl)

algorithm_viewed : (a : AlgorithmIdentifierOf IdentifierView AnyRef)
    → ((viewed_with any_of a).oid ≡ identifier_octets a.oid)
    × ((viewed_with any_of a).parameters ≡ option_map any_of a.parameters)
algorithm_viewed a = (refl, refl)

mask_held : (a : AlgorithmIdentifierOf ObjectIdentifier (AlgorithmIdentifierOf ObjectIdentifier AnyRef))
    → ((mask_gen_of a).oid ≡ own_octets_of a.oid)
    × ((mask_gen_of a).parameters ≡ option_map (algorithm_in own_octets_of any_of) a.parameters)
    × ((mask_gen_in own_octets_of any_of a).oid ≡ own_octets_of a.oid)
mask_held a = (refl, refl, refl)
