-- What RSAES-OAEP parameters mean, by what holds their identifiers and the parameters of algorithms, and for which of
-- them owned ones ask for memory.
use Rattle.std.specs.Prelude.{ℕ, List, ◌≡◌, length}
use Rattle.der_core.specs.Words.{AreBytes}
use Rattle.spki_core.specs.Words.{TagAndContents, null_value, any_of, algorithm_in, mask_gen_in, own_octets_of, identifier_octets}
use Rattle.spki_core.specs.declared.any.AnyRef.{AnyRef}
use Rattle.pkcs1_params.specs.Parameters.{id_mgf1, id_p_specified, with_parameters, octets_value, OaepParameters}
use Rattle.standard.specs.Statement.{Fields, IfPresent, IsBare, IsOaep, OaepEncoding, oaep_fields}
use Rattle.pkcs1_params.specs.declared.oaep.OaepParamsOf.{OaepParamsOf}
use Rattle.spki_core.specs.declared.identifier_view.IdentifierView.{IdentifierView}
use Rattle.spki_core.specs.declared.object_identifier.ObjectIdentifier.{ObjectIdentifier}

abbrev pub oaep_in : {O X : Type 0} → (O → List ℕ) → (X → TagAndContents) → OaepParamsOf O X → OaepParameters
oaep_in octets any p =
    record {
      hash = algorithm_in octets any p.hash;
      mask_gen = mask_gen_in octets any p.mask_gen;
      p_source = algorithm_in octets any p.p_source;
    }

-- that hold their identifiers
abbrev pub oaep_with : {X : Type 0} → (X → TagAndContents) → OaepParamsOf ObjectIdentifier X → OaepParameters
oaep_with = oaep_in own_octets_of

-- with borrowed parameters
abbrev pub oaep_of : OaepParamsOf ObjectIdentifier AnyRef → OaepParameters
oaep_of = oaep_with any_of

-- that borrow from the input
abbrev pub oaep_viewed : OaepParamsOf IdentifierView AnyRef → OaepParameters
oaep_viewed = oaep_in identifier_octets any_of

-- a hash function with NULL, MGF1 with the same, and a label
abbrev pub labelled : List ℕ → List ℕ → OaepParameters
labelled oid label = record {
  hash = with_parameters oid null_value;
  mask_gen = with_parameters id_mgf1 (with_parameters oid null_value);
  p_source = with_parameters id_p_specified (octets_value label);
}

-- with a label of n bytes there is always an encoding, or never
abbrev pub LabelFits : List ℕ → ℕ → Type 0
LabelFits oid n =
    (label : List ℕ) → AreBytes label → length label ≡ n
    → (encoding : List ℕ) × OaepEncoding (labelled oid label) encoding

abbrev pub NoLabelFits : List ℕ → ℕ → Type 0
NoLabelFits oid n =
    (label : List ℕ) → AreBytes label → length label ≡ n → (encoding : List ℕ)
    → OaepEncoding (labelled oid label) encoding → ⊥

-- No algorithm in them has parameters with octets.
abbrev pub IsBareOaep : OaepParameters → Type 0
IsBareOaep p = IsBare p.hash × IfPresent IsBare p.mask_gen.parameters × IsBare p.p_source

-- Contents of parameters some of which have octets.
abbrev pub OwnedOaepAllocates : List ℕ → Type 0
OwnedOaepAllocates contents = (p : OaepParameters) × IsOaep p × Fields (oaep_fields p) contents × (IsBareOaep p → ⊥)
