-- Parameters that are held: their parts can be, and they have encodings. Their faults are about the bytes. For what
-- makes parameters of structs, and for the decoders.
use Rattle.std.proofs.Common.{ℕ, List, ◌≡◌, arith, rules, refl, subst, Option, Some, None, option_map, ◌∙◌}
use Rattle.spki_core.specs.Words.{viewed_with, any_of, viewed_held, identifier_octets, FieldRecord, record_means, record_whole, spelling_read, record_alike, record_front_law}
use Rattle.spki_core.specs.declared.algorithm_identifier.AlgorithmIdentifierOf.{AlgorithmIdentifierOf}
use Rattle.spki_core.specs.declared.any.AnyRef.{AnyRef}
use Rattle.spki_core.specs.declared.identifier_view.IdentifierView.{IdentifierView}
use Rattle.pkcs1_params.specs.Words.{oaep_viewed, pss_viewed, FaultsTell, whole_tells}
use Rattle.pkcs1_params.specs.declared.oaep.OaepParamsOf.{OaepParamsOf}
use Rattle.pkcs1_params.specs.declared.pss.PssParamsOf.{PssParamsOf}
use Rattle.standard.specs.Statement.{Algorithm, IsIdentifier, OaepParameters, PssParameters, TagAndContents, Field}
use Rattle.pkcs1_c.specs.Words.{NoStatus, OidError, AnyError, OptionError, AlgorithmError, PlainError, MaskError, HashFieldsThen, PssFieldError, OaepFieldError}
use Rattle.pkcs1_c.proofs.StructErrors.{part_none}
use Rattle.der_core.specs.Words.{tagged_alike, whole_alike, made_tells, tagged, whole}
use Rattle.der_core.specs.Tags as tags

abbrev AlgorithmView : Type 0 → Type 0
AlgorithmView = AlgorithmIdentifierOf IdentifierView

abbrev RsaPssParamsView : Type 0
RsaPssParamsView = PssParamsOf IdentifierView AnyRef

abbrev RsaOaepParamsView : Type 0
RsaOaepParamsView = OaepParamsOf IdentifierView AnyRef

-- What was read of any tag has no error.
any_has_no_status : (any : Option AnyRef) → NoStatus (OptionError AnyError (option_map any_of any))
any_has_no_status None s p = p
any_has_no_status (Some any) s p = grind arith

module _ {P V : Type 0} (of : P → V) (WhyNot : V → ℕ → Type 0) (a : AlgorithmView P) where
  -- Nor has an algorithm, if its parameters have none.
  algorithm_has_no_status : NoStatus (OptionError WhyNot (option_map of a.parameters))
      → NoStatus (AlgorithmError WhyNot (viewed_with of a))
  algorithm_has_no_status none =
      part_none (OidError (viewed_with of a).oid) (OptionError WhyNot (viewed_with of a).parameters)
      (λ s p. p.1 (viewed_held a.oid)) none

pub plain_has_no_status : (a : AlgorithmView AnyRef) (seen : Algorithm TagAndContents) → viewed_with any_of a ≡ seen
    → NoStatus (PlainError seen)
plain_has_no_status a seen is =
    subst (λ a. NoStatus (PlainError a)) is (algorithm_has_no_status any_of AnyError a (any_has_no_status a.parameters))

mask_hash_has_no_status : (under : Option (AlgorithmView AnyRef))
    → NoStatus (OptionError PlainError (option_map (viewed_with any_of) under))
mask_hash_has_no_status None s p = p
mask_hash_has_no_status (Some a) s p = plain_has_no_status a _ refl s p

pub mask_has_no_status : (m : AlgorithmView (AlgorithmView AnyRef)) (seen : Algorithm (Algorithm TagAndContents))
    → viewed_with (viewed_with any_of) m ≡ seen → NoStatus (MaskError seen)
mask_has_no_status m seen is =
    subst (λ m. NoStatus (MaskError m)) is
    (algorithm_has_no_status (viewed_with any_of) PlainError m (mask_hash_has_no_status m.parameters))

-- Nor have both fields, in front of what has none.
hash_fields_have_no_status : (hash : AlgorithmView AnyRef) (mask : AlgorithmView (AlgorithmView AnyRef))
    (Rest : ℕ → Type 0)
    → NoStatus Rest → NoStatus (HashFieldsThen (viewed_with any_of hash) (viewed_with (viewed_with any_of) mask) Rest)
hash_fields_have_no_status hash mask Rest none =
    let first = plain_has_no_status hash _ refl in let second = mask_has_no_status mask _ refl in
    search (rules, part_none)

pub pss_has_no_status : (p : RsaPssParamsView) (seen : PssParameters) → pss_viewed p ≡ seen
    → NoStatus (PssFieldError seen)
pss_has_no_status p seen is =
    subst (λ v. NoStatus (PssFieldError v)) is (hash_fields_have_no_status p.hash p.mask_gen _ (λ s q. q.1 refl))

pub oaep_has_no_status : (p : RsaOaepParamsView) (seen : OaepParameters) → oaep_viewed p ≡ seen
    → NoStatus (OaepFieldError seen)
oaep_has_no_status p seen is =
    subst (λ v. NoStatus (OaepFieldError v)) is
    (hash_fields_have_no_status p.hash p.mask_gen (PlainError (viewed_with any_of p.p_source))
    (plain_has_no_status p.p_source _ refl))

-- The octets of an identifier have none.
pub oid_has_no_status : (oid : IdentifierView) (octets : List ℕ) → identifier_octets oid ≡ octets
    → NoStatus (OidError octets)
oid_has_no_status oid octets is s p = p.1 (subst IsIdentifier is (viewed_held oid))

-- The faults of parameters are about the bytes.
pub record_tells : {V : Type 0} {Is : V → Type 0} {fields : V → List Field} (r : FieldRecord Is fields)
    → FaultsTell (record_whole r)
record_tells r b k e =
    made_tells (record_means r) (whole (tagged tags.sequence_tag (spelling_read r.kinds)) b)
    (whole_tells (record_front_law r) b k) ((whole_alike (tagged_alike (record_alike r) tags.sequence_tag)).same b ∙ e)
