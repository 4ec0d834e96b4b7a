-- Algorithm identifiers with parameters of their own: { id-RSASSA-PSS, RSASSA-PSS-params } and { id-RSAES-OAEP,
-- RSAES-OAEP-params } (RFC 8017 A.2.3, A.2.1; RFC 4055 3.1, 4.1).
use Rattle.std.specs.Prelude.{ℕ, List, ◌≡◌, ◌≤◌, ◌++◌, length, Option, Some, None, Result, Err, if◌then◌else◌, bytes_eq}
use Rattle.der_core.specs.declared.error.ErrorKind.{ErrorKind}
use Rattle.der_core.specs.declared.error.ErrorKind.TheVariants.{Noncanonical, OidUnknown, ParametersMissing}
use Rattle.der_core.specs.Words.{AreBytes, limit, Reading, ◌>>=◌, whole, context_octet}
use Rattle.der_core.specs.Tags as tags
use Rattle.der_core.specs.declared.tag.Tag.{Tag}
use Rattle.spki_core.specs.Words.{any_as}
use Rattle.pkcs1_params.specs.ParameterReadings.{oaep_read, plain_front, pss_read, strict_oaep_read, strict_pss_read}
use Rattle.pkcs1_params.specs.Spellings.{EncodingOfFields, FirstWritten}
use Rattle.standard.specs.Statement.{Algorithm, AlgorithmEncoding, Field, Fields, IsAlgorithm, IsAny, OaepParameters, PssParameters, TagAndContents, algorithm, any, id_rsaes_oaep, id_rsassa_pss, sequence, tlv}

-- The algorithm has this identifier, and its parameters are the SEQUENCE of the fields of a value that may be encoded.
abbrev pub Identifies : {V : Type 0} → List ℕ → (V → Type 0) → (V → List Field) → V → Algorithm TagAndContents → Type 0
Identifies oid Is fields v a =
    (contents : List ℕ) × (a ≡ record { oid = oid; parameters = Some (record { tag = 48; contents = contents }) })
    × Is v × Fields (fields v) contents

-- An algorithm identifier with parameters of any tag.
abbrev pub PlainEncoding : Algorithm TagAndContents → List ℕ → Type 0
PlainEncoding a bytes = (length bytes ≤ limit) × IsAlgorithm IsAny a × (bytes ≡ algorithm any a)

-- The parameters in an algorithm identifier: another one is unknown, and none are missing.
abbrev pub parameters_as : {V : Type 0} → Reading V → Option TagAndContents → Result V ErrorKind
parameters_as read None = Err ParametersMissing
parameters_as read (Some any) = any_as tags.sequence_tag read any

abbrev pub identified : {V : Type 0} → List ℕ → Reading V → Algorithm TagAndContents → Result V ErrorKind
identified oid read a = if bytes_eq a.oid oid then parameters_as read a.parameters else Err OidUnknown

-- Whole slices that have to be an identifier of this algorithm, with parameters of these contents.
abbrev pub whole_algorithm : {V : Type 0} → List ℕ → Reading V → Reading V
whole_algorithm oid read bytes = whole plain_front bytes >>= identified oid read

abbrev pub rsa_pss_algorithm : Reading PssParameters
rsa_pss_algorithm = whole_algorithm id_rsassa_pss pss_read

abbrev pub rsa_oaep_algorithm : Reading OaepParameters
rsa_oaep_algorithm = whole_algorithm id_rsaes_oaep oaep_read

-- The same of shortest encodings alone: no default is written in the parameters.
abbrev pub strict_pss_algorithm : Reading PssParameters
strict_pss_algorithm = whole_algorithm id_rsassa_pss strict_pss_read

abbrev pub strict_oaep_algorithm : Reading OaepParameters
strict_oaep_algorithm = whole_algorithm id_rsaes_oaep strict_oaep_read

-- What reads shortest identifiers alone gives the tag of the first default that is written in the parameters.
abbrev pub NamesFirstDefaultIn : {V : Type 0} → List ℕ → (V → Type 0) → (V → List Field) → Reading V → Type 0
NamesFirstDefaultIn {V} oid Is fields strictly =
    (v : V) (n : ℕ) (tag : Tag) (contents bytes : List ℕ) →
    AreBytes bytes →
    AlgorithmEncoding oid (EncodingOfFields Is fields) v bytes →
    bytes ≡ sequence (tlv 6 oid ++ sequence contents) →
    FirstWritten (fields v) n contents →
    tag.octet ≡ context_octet n →
    strictly bytes ≡ Err (Noncanonical tag)
