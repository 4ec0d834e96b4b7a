-- What an algorithm identifier means, by what its parameters mean.
use Rattle.std.specs.Prelude.{ℕ, List, option_map}
use Rattle.spki_core.specs.declared.any.AnyRef.{AnyRef}
use Rattle.spki_core.specs.declared.algorithm_identifier.AlgorithmIdentifierOf.{AlgorithmIdentifierOf}
use Rattle.spki_core.specs.declared.identifier_view.IdentifierView.{IdentifierView}
use Rattle.spki_core.specs.declared.object_identifier.ObjectIdentifier.{ObjectIdentifier}
use Rattle.spki_core.specs.Identifiers.{TagAndContents, Algorithm}
use Rattle.spki_core.specs.HeldValues.{any_of, own_octets_of, identifier_octets}

-- by the octets of its object identifier too
abbrev pub algorithm_in : {O X V : Type 0} → (O → List ℕ) → (X → V) → AlgorithmIdentifierOf O X → Algorithm V
algorithm_in octets value a = record { oid = octets a.oid; parameters = option_map value a.parameters }

abbrev pub algorithm_with : {X V : Type 0} → (X → V) → AlgorithmIdentifierOf ObjectIdentifier X → Algorithm V
algorithm_with = algorithm_in own_octets_of

-- with borrowed parameters of any tag
abbrev pub algorithm_of : AlgorithmIdentifierOf ObjectIdentifier AnyRef → Algorithm TagAndContents
algorithm_of = algorithm_with any_of

-- whose parameters are an algorithm identifier
abbrev pub mask_gen_in : {O X : Type 0} → (O → List ℕ) → (X → TagAndContents)
    → AlgorithmIdentifierOf O (AlgorithmIdentifierOf O X) → Algorithm (Algorithm TagAndContents)
mask_gen_in octets any = algorithm_in octets (algorithm_in octets any)

-- with borrowed parameters
abbrev pub mask_gen_of : AlgorithmIdentifierOf ObjectIdentifier (AlgorithmIdentifierOf ObjectIdentifier AnyRef)
    → Algorithm (Algorithm TagAndContents)
mask_gen_of = mask_gen_in own_octets_of any_of

-- with a borrowed object identifier
abbrev pub viewed_with : {X V : Type 0} → (X → V) → AlgorithmIdentifierOf IdentifierView X → Algorithm V
viewed_with = algorithm_in identifier_octets
