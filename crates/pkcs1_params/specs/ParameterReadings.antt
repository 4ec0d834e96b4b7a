-- Parameters as SEQUENCEs of fields with defaults, and reading them as functions of the bytes (RFC 8017 A.2.3, A.2.1).
use Rattle.std.specs.Prelude.{ℕ, ◌+◌, ◌<◌, ◌≡◌, ◌==◌, List, [], ◌∷◌, IsTrue, true, eqb}
use Rattle.der_core.specs.Words.{small_of, FrontReading, Reading, made, such, tagged, whole, is_allowed}
use Rattle.der_core.specs.Tags as tags
use Rattle.der_core.specs.declared.error.ErrorKind.TheVariants.{Value}
use Rattle.spki_core.specs.Words.{same_mask, same_plain, Kind, Values, strict_contents, strict_slice, values_read, algorithm_read, any_front, WrittenField, field_with}
use Rattle.pkcs1_params.specs.declared.fields.FieldRef.{FieldRef}
use Rattle.pkcs1_params.specs.declared.fields.FieldRef.TheVariants as ref
use Rattle.standard.specs.Statement.{Algorithm, IsAlgorithm, IsAny, OaepParameters, PssParameters, TagAndContents, algorithm, any, empty_label, integer, mgf1_sha1, sha1}

-- Algorithm identifiers with parameters of any tag, and with such an identifier as parameters.
abbrev pub plain_front : FrontReading (Algorithm TagAndContents)
plain_front = tagged tags.sequence_tag (algorithm_read any_front)

abbrev pub mask_front : FrontReading (Algorithm (Algorithm TagAndContents))
mask_front = tagged tags.sequence_tag (algorithm_read plain_front)

-- The number 1.
abbrev pub trailer_read : Reading ℕ
trailer_read = such (λ n. n == 1) (Value tags.integer_tag) small_of

-- The kinds of the fields.
abbrev pub plain_kind : (n : ℕ) → IsTrue (is_allowed (160 + n)) → Algorithm TagAndContents → Kind
plain_kind n allowed default =
    record {
      Value = Algorithm TagAndContents;
      number = n;
      allowed = allowed;
      Is = IsAlgorithm IsAny;
      printed = algorithm any;
      at = plain_front;
      default = default;
      is_default = λ v. same_plain v default;
    }

abbrev pub hash_kind : Kind
hash_kind = plain_kind 0 (λ i. true) sha1

abbrev pub mask_kind : Kind
mask_kind =
    record {
      Value = Algorithm (Algorithm TagAndContents);
      number = 1;
      allowed = λ i. true;
      Is = IsAlgorithm (IsAlgorithm IsAny);
      printed = algorithm (algorithm any);
      at = mask_front;
      default = mgf1_sha1;
      is_default = λ v. same_mask v mgf1_sha1;
    }

abbrev pub salt_kind : Kind
salt_kind =
    record {
      Value = ℕ;
      number = 2;
      allowed = λ i. true;
      Is = λ n. n < 256;
      printed = integer;
      at = tagged tags.integer_tag small_of;
      default = 20;
      is_default = λ n. eqb n 20;
    }

abbrev pub trailer_kind : Kind
trailer_kind =
    record {
      Value = ℕ;
      number = 3;
      allowed = λ i. true;
      Is = λ n. n ≡ 1;
      printed = integer;
      at = tagged tags.integer_tag trailer_read;
      default = 1;
      is_default = λ n. eqb n 1;
    }

abbrev pub source_kind : Kind
source_kind = plain_kind 2 (λ i. true) empty_label

abbrev pub pss_kinds : List Kind
pss_kinds = hash_kind ∷ mask_kind ∷ salt_kind ∷ trailer_kind ∷ []

abbrev pub oaep_kinds : List Kind
oaep_kinds = hash_kind ∷ mask_kind ∷ source_kind ∷ []

-- The parameters with values of the fields, and the values of parameters.
abbrev pub of_pss_fields : Values pss_kinds → PssParameters
of_pss_fields v = record { hash = v.0; mask_gen = v.1.0; salt_len = v.1.1.0; trailer_field = v.1.1.1.0 }

abbrev pub in_pss_fields : PssParameters → Values pss_kinds
in_pss_fields p = (p.hash, (p.mask_gen, (p.salt_len, (p.trailer_field, tt))))

abbrev pub of_oaep_fields : Values oaep_kinds → OaepParameters
of_oaep_fields v = record { hash = v.0; mask_gen = v.1.0; p_source = v.1.1.0 }

abbrev pub in_oaep_fields : OaepParameters → Values oaep_kinds
in_oaep_fields p = (p.hash, (p.mask_gen, (p.p_source, tt)))

-- Contents, and whole slices that have to be parameters.
abbrev pub pss_read : Reading PssParameters
pss_read = made of_pss_fields (values_read pss_kinds)

abbrev pub oaep_read : Reading OaepParameters
oaep_read = made of_oaep_fields (values_read oaep_kinds)

abbrev pub rsa_pss_params : Reading PssParameters
rsa_pss_params = whole (tagged tags.sequence_tag pss_read)

abbrev pub rsa_oaep_params : Reading OaepParameters
rsa_oaep_params = whole (tagged tags.sequence_tag oaep_read)

-- The same of shortest encodings alone (X.690 11.5).
abbrev pub strict_pss_read : Reading PssParameters
strict_pss_read = strict_contents pss_kinds of_pss_fields

abbrev pub strict_oaep_read : Reading OaepParameters
strict_oaep_read = strict_contents oaep_kinds of_oaep_fields

abbrev pub strict_pss_params : Reading PssParameters
strict_pss_params = strict_slice pss_kinds of_pss_fields

abbrev pub strict_oaep_params : Reading OaepParameters
strict_oaep_params = strict_slice oaep_kinds of_oaep_fields

-- == A borrowed field as it is written, by what its holder holds ==
abbrev pub field_number : {P M : Type 0} → FieldRef P M → ℕ
field_number (ref.Hash v) = 0
field_number (ref.MaskGen v) = 1
field_number (ref.SaltLen n) = 2
field_number (ref.Trailer t) = 3
field_number (ref.PSource v) = 2

module _ {P M : Type 0} (plain : P → Algorithm TagAndContents) (mask : M → Algorithm (Algorithm TagAndContents)) where
  abbrev pub field_in : FieldRef P M → WrittenField
  field_in (ref.Hash v) = field_with hash_kind (plain v.now)
  field_in (ref.MaskGen v) = field_with mask_kind (mask v.now)
  field_in (ref.SaltLen n) = field_with salt_kind n
  field_in (ref.Trailer t) = field_with trailer_kind 1
  field_in (ref.PSource v) = field_with source_kind (plain v.now)
