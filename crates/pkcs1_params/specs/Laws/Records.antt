-- The laws of parameters: of their fields, and of the records that hold these.
use Rattle.std.proofs.Common.{List, [], ◌∷◌, ◌≡◌, ◌<◌, ◌==◌, refl, arith, rules}
use Rattle.der_core.specs.Words.{nat_tests, number_decides, small_law, such_law, tagged_law, reads_printed_as, value_error_tells, ReadsFrontPrinted, ReadsPrinted, number_contents}
use Rattle.der_core.specs.Tags as tags
use Rattle.spki_core.specs.Words.{AreLawful, FieldRecord, Kind, same_mask_decides, same_plain_decides, is_identifier-sound, algorithm_law, any_law, any_some}
use Rattle.pkcs1_params.specs.ParameterReadings.{hash_kind, in_oaep_fields, in_pss_fields, mask_front, mask_kind, oaep_kinds, of_oaep_fields, of_pss_fields, plain_front, pss_kinds, salt_kind, source_kind, trailer_kind, trailer_read}
use Rattle.standard.specs.Statement.{IsAlgorithm, IsAny, IsIdentifier, IsOaep, IsPss, algorithm, any, empty_label, id_rsaes_oaep, id_rsassa_pss, mgf1_sha1, oaep_fields, pss_fields, sha1}

pub plain_law : ReadsFrontPrinted (IsAlgorithm IsAny) (algorithm any) plain_front
plain_law = tagged_law (algorithm_law any_law any_some) tags.sequence_tag

mask_law : ReadsFrontPrinted (IsAlgorithm (IsAlgorithm IsAny)) (algorithm (algorithm any)) mask_front
mask_law = tagged_law (algorithm_law plain_law (λ a. omega arith)) tags.sequence_tag

pub trailer_law : ReadsPrinted (λ n. n ≡ 1) number_contents trailer_read
trailer_law =
    reads_printed_as
    (such_law small_law (λ n. n ≡ 1) (λ n. n == 1) _ (λ n e. grind (arith, nat_tests, e))
    (λ n e. grind (arith, nat_tests, e)) (value_error_tells refl))
    (λ n ok. ok.0) (λ n is. let less : n < 256 = omega (arith, is) in (is, less))

-- The identifiers in defaults, and those of the algorithms that parameters are of.
pub mgf1_identifier : IsIdentifier mgf1_sha1.oid
mgf1_identifier = is_identifier-sound mgf1_sha1.oid (search rules) refl

pub source_identifier : IsIdentifier empty_label.oid
source_identifier = is_identifier-sound empty_label.oid (search rules) refl

pub pss_identifier : IsIdentifier id_rsassa_pss
pss_identifier = is_identifier-sound id_rsassa_pss (search rules) refl

pub oaep_identifier : IsIdentifier id_rsaes_oaep
oaep_identifier = is_identifier-sound id_rsaes_oaep (search rules) refl

sha1_is : IsAlgorithm IsAny sha1
sha1_is = (is_identifier-sound sha1.oid (search rules) refl, (refl, tt))

-- The fields that both begin with, and those behind them.
hash_lawful : (later : List Kind) → AreLawful 2 later → AreLawful 0 (hash_kind ∷ mask_kind ∷ later)
hash_lawful later lawful = (
  omega arith,
  plain_law,
  (λ v. same_plain_decides v sha1),
  sha1_is,
  (omega arith, mask_law, (λ v. same_mask_decides v mgf1_sha1), (mgf1_identifier, sha1_is), lawful),
)

-- RSASSA-PSS-params.
pub pss_lawful : AreLawful 0 pss_kinds
pss_lawful =
    hash_lawful (salt_kind ∷ trailer_kind ∷ []) (
      omega arith,
      tagged_law small_law tags.integer_tag,
      (λ n. number_decides n 20),
      omega arith,
      (omega arith, tagged_law trailer_law tags.integer_tag, (λ n. number_decides n 1), refl, tt),
    )

abbrev pub pss_record : FieldRecord IsPss pss_fields
pss_record = record {
  kinds = pss_kinds;
  lawful = pss_lawful;
  numbered = (refl, (refl, (refl, (refl, tt))));
  join = of_pss_fields;
  split = in_pss_fields;
  parted = λ v. refl;
  whole = λ p. refl;
  is = λ p ok. (ok.0, ok.1.0, ok.1.1.0, ok.1.1.1.0);
  are = λ p ok. (ok.0, (ok.1, (ok.2, (ok.3, tt))));
  fields_are = λ p. refl;
}

-- RSAES-OAEP-params.
pub oaep_lawful : AreLawful 0 oaep_kinds
oaep_lawful =
    hash_lawful (source_kind ∷ [])
    (omega arith, plain_law, (λ v. same_plain_decides v empty_label), (source_identifier, (refl, tt)), tt)

abbrev pub oaep_record : FieldRecord IsOaep oaep_fields
oaep_record = record {
  kinds = oaep_kinds;
  lawful = oaep_lawful;
  numbered = (refl, (refl, (refl, tt)));
  join = of_oaep_fields;
  split = in_oaep_fields;
  parted = λ v. refl;
  whole = λ p. refl;
  is = λ p ok. (ok.0, ok.1.0, ok.1.1.0);
  are = λ p ok. (ok.0, (ok.1, (ok.2, tt)));
  fields_are = λ p. refl;
}
