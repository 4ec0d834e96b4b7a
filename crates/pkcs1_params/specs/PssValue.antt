-- What RSASSA-PSS parameters mean, by what holds their identifiers and the parameters of algorithms, and for which of
-- them owned ones ask for memory.
use Rattle.std.specs.Prelude.{ℕ, List}
use Rattle.spki_core.specs.Words.{TagAndContents, any_of, algorithm_in, mask_gen_in, own_octets_of, identifier_octets}
use Rattle.spki_core.specs.declared.any.AnyRef.{AnyRef}
use Rattle.pkcs1_params.specs.Parameters.{PssParameters}
use Rattle.pkcs1_params.specs.declared.pss.PssParamsOf.{PssParamsOf}
use Rattle.spki_core.specs.declared.identifier_view.IdentifierView.{IdentifierView}
use Rattle.spki_core.specs.declared.object_identifier.ObjectIdentifier.{ObjectIdentifier}
use Rattle.standard.specs.Statement.{Fields, IfPresent, IsBare, IsPss, pss_fields}

abbrev pub pss_in : {O X : Type 0} → (O → List ℕ) → (X → TagAndContents) → PssParamsOf O X → PssParameters
pss_in octets any p =
    record {
      hash = algorithm_in octets any p.hash;
      mask_gen = mask_gen_in octets any p.mask_gen;
      salt_len = p.salt_len;
      trailer_field = 1;
    }

-- that hold their identifiers
abbrev pub pss_with : {X : Type 0} → (X → TagAndContents) → PssParamsOf ObjectIdentifier X → PssParameters
pss_with = pss_in own_octets_of

-- with borrowed parameters
abbrev pub pss_of : PssParamsOf ObjectIdentifier AnyRef → PssParameters
pss_of = pss_with any_of

-- that borrow from the input
abbrev pub pss_viewed : PssParamsOf IdentifierView AnyRef → PssParameters
pss_viewed = pss_in identifier_octets any_of

-- No algorithm in them has parameters with octets.
abbrev pub IsBarePss : PssParameters → Type 0
IsBarePss p = IsBare p.hash × IfPresent IsBare p.mask_gen.parameters

-- Contents of parameters some of which have octets.
abbrev pub OwnedPssAllocates : List ℕ → Type 0
OwnedPssAllocates contents = (p : PssParameters) × IsPss p × Fields (pss_fields p) contents × (IsBarePss p → ⊥)
