-- Worked rows: encodings in hexadecimal digits, with the value that they mean, or with the kind of their first fault.
-- The functions compute, and calls promise what they give.
use Rattle.std.proofs.Common.{ℕ, List, [], ◌∷◌, ◌++◌, ◌≡◌, ◌*◌, map, refl, Ok, Err, Option, Some, None, codes, ◌^◌, replicate}
use Rattle.der_core.specs.Words.{header_at, length_at, integer_tag, null_tag, object_identifier_tag, octet_string_tag, sequence_tag, FrontReading, Reading, alone, tagged}
use Rattle.der_core.specs.declared.error.ErrorKind.{ErrorKind}
use Rattle.der_core.specs.declared.error.ErrorKind.TheVariants.{Incomplete, IndefiniteLength, Length, Noncanonical, OidMalformed, OidUnknown, Overflow, Overlength, ParametersMissing, TagUnexpected, TagUnknown, TrailingData, Value}
use Rattle.standard.specs.Hex.{digit, hex}
use Rattle.standard.specs.Statement.{PublicKey, PrivateKey, OtherPrime, PssParameters, OaepParameters, Algorithm, TagAndContents, Container, rsa_encryption, sha1, mgf1_sha1, empty_label}
use Rattle.spki_core.specs.Words.{algorithm_read, any_front, identifier_read}
use Rattle.pkcs1.specs.Words.{rsa_private_key, rsa_public_key}
use Rattle.pkcs1_params.specs.Words.{rsa_oaep_algorithm, rsa_pss_algorithm, rsa_oaep_params, rsa_pss_params}
use Rattle.pkcs8_core.specs.Words.{private_key_info, rsa_private_key_info}

abbrev RowsMean : {V : Type 0} → Reading V → List (List ℕ × V) → Type 0
RowsMean read rows = map (λ row. read (hex row.0)) rows ≡ map (λ row. Ok row.1) rows

abbrev RowsAreRejected : {V : Type 0} → Reading V → List (List ℕ × ErrorKind) → Type 0
RowsAreRejected read rows = map (λ row. read (hex row.0)) rows ≡ map (λ row. Err row.1) rows

-- == RSAPublicKey ==
abbrev public_key_of : ℕ → ℕ → PublicKey
public_key_of n e = record { modulus = n; public_exponent = e }

public_keys : RowsMean rsa_public_key (
    (codes "3006020107020103", public_key_of 7 3)
    ∷ (codes "300602010702010b", public_key_of 7 11)
    ∷ (codes "300702020080020103", public_key_of 128 3)
    ∷ (codes "3006020100020100", public_key_of 0 0)
    -- A modulus of 128 octets: lengths in long form.
    ∷ (codes "30818602818040" ++ (replicate 254 0x30 ++ codes "020103"), public_key_of (256 ^ 127 * 64) 3)
    ∷ []
    )
unfolding hex digit header_at length_at
public_keys = refl

no_public_keys : RowsAreRejected rsa_public_key (
    -- No header, or not that of a SEQUENCE; lengths that aren't DER, or too long.
    (codes "", Incomplete)
    ∷ (codes "30", Incomplete)
    ∷ (codes "1f", TagUnknown 0x1f)
    ∷ (codes "3100", TagUnexpected sequence_tag (record { octet = 0x31; allowed = refl }))
    ∷ (codes "0206020107020103", TagUnexpected sequence_tag integer_tag)
    ∷ (codes "3080020107020103", IndefiniteLength)
    ∷ (codes "308106020107020103", Overlength)
    ∷ (codes "308501", Overflow)
    ∷ (codes "30850100000000", Overflow)
    -- Too few octets, numbers, and too many.
    ∷ (codes "3007020107020103", Incomplete)
    ∷ (codes "30840fffffff", Incomplete)
    ∷ (codes "308410000000", Incomplete)
    ∷ (codes "3000", Incomplete)
    ∷ (codes "3003020107", Incomplete)
    ∷ (codes "300602010702010300", TrailingData)
    ∷ (codes "3009020107020103020101", TrailingData)
    -- The modulus, and then the exponent: cut off, empty, with a needless zero, negative.
    ∷ (codes "30020201", Incomplete)
    ∷ (codes "30050200020103", Length integer_tag)
    ∷ (codes "300702020007020103", Noncanonical integer_tag)
    ∷ (codes "3006020180020103", Value integer_tag)
    ∷ (codes "3006020107020201", Incomplete)
    ∷ (codes "30050201070200", Length integer_tag)
    ∷ (codes "300702010702020003", Noncanonical integer_tag)
    ∷ (codes "3006020107020180", Value integer_tag)
    ∷ []
    )
unfolding hex digit header_at length_at
no_public_keys = refl

-- == RSAPrivateKey ==
abbrev key_with_others : Option (List OtherPrime) → PrivateKey
key_with_others others = record {
  modulus = 7;
  public_exponent = 3;
  private_exponent = 5;
  prime1 = 11;
  prime2 = 13;
  exponent1 = 2;
  exponent2 = 4;
  coefficient = 6;
  other_primes = others;
}

abbrev other_prime_of : ℕ → ℕ → ℕ → OtherPrime
other_prime_of r d t = record { prime = r; exponent = d; coefficient = t }

private_keys : RowsMean rsa_private_key (
    (codes "301b02010002010702010302010502010b02010d020102020104020106", key_with_others None)
    ∷ (
      codes "302802010102010702010302010502010b02010d020102020104020106300b3009020111020102020103",
      key_with_others (Some (other_prime_of 17 2 3 ∷ [])),
    )
    ∷ (
      codes
          "303302010102010702010302010502010b02010d020102020104020106301630090201110201020201033009020113020104020105",
      key_with_others (Some (other_prime_of 17 2 3 ∷ other_prime_of 19 4 5 ∷ [])),
    )
    ∷ []
    )
unfolding hex digit header_at length_at
private_keys = refl

no_private_keys : RowsAreRejected rsa_private_key (
    (codes "3003020102", Value integer_tag)
    ∷ (codes "301b02010202010702010302010502010b02010d020102020104020106", Value integer_tag)
    -- Version 1 without other primes, and version 0 with them or with an empty list.
    ∷ (codes "301b02010102010702010302010502010b02010d020102020104020106", Value integer_tag)
    ∷ (codes "301d02010102010702010302010502010b02010d0201020201040201060500", Value integer_tag)
    ∷ (codes "302802010002010702010302010502010b02010d020102020104020106300b3009020111020102020103", Value integer_tag)
    ∷ (
      codes "302a02010002010702010302010502010b02010d020102020104020106300b30090201110201020201030500",
      Value
          integer_tag,
    )
    ∷ (codes "301d02010002010702010302010502010b02010d0201020201040201063000", Value integer_tag)
    -- An empty list of version 1, with and without more behind it; another prime that is cut off, of version 0.
    ∷ (codes "301d02010102010702010302010502010b02010d0201020201040201063000", Value sequence_tag)
    ∷ (codes "301f02010102010702010302010502010b02010d02010202010402010630000500", Value sequence_tag)
    ∷ (codes "302702010002010702010302010502010b02010d020102020104020106300a30080201110201020201", Incomplete)
    ∷ []
    )
unfolding hex digit header_at length_at
no_private_keys = refl

-- == Identifiers, any encoding, AlgorithmIdentifier ==
abbrev identifier_alone : Reading (List ℕ)
identifier_alone = alone (tagged object_identifier_tag identifier_read)

-- Identifiers that end within a subidentifier, begin one with 80, have no octet.
no_identifiers : RowsAreRejected identifier_alone (
    (codes "06022a80", OidMalformed)
    ∷ (codes "06028001", OidMalformed)
    ∷ (codes "0600", OidMalformed)
    ∷ []
    )
unfolding hex digit header_at length_at
no_identifiers = refl

-- At most 39 octets.
longest_identifier : identifier_alone (0x06 ∷ 39 ∷ replicate 39 1) ≡ Ok (replicate 39 1)
unfolding hex digit header_at length_at
longest_identifier = refl

longer_identifier : identifier_alone (0x06 ∷ 40 ∷ replicate 40 1) ≡ Err OidMalformed
unfolding hex digit header_at length_at
longer_identifier = refl

abbrev algorithm_front : {P : Type 0} → FrontReading P → FrontReading (Algorithm P)
algorithm_front parameters = tagged sequence_tag (algorithm_read parameters)

abbrev plain_any : ℕ → List ℕ → TagAndContents
plain_any tag contents = record { tag = tag; contents = contents }

any_encodings : RowsMean (alone any_front) (
    (codes "0500", plain_any 5 [])
    ∷ (codes "050100", plain_any 5 (0x00 ∷ []))
    ∷ []
    )
unfolding hex digit header_at length_at
any_encodings = refl

no_any_encodings : RowsAreRejected (alone any_front) (
    (codes "0000", TagUnknown 0)
    ∷ (codes "1f00", TagUnknown 0x1f)
    ∷ []
    )
unfolding hex digit header_at length_at
no_any_encodings = refl

abbrev algorithm_of_oid : {P : Type 0} → List ℕ → Option P → Algorithm P
algorithm_of_oid oid parameters = record { oid = oid; parameters = parameters }

algorithms : RowsMean (alone (algorithm_front any_front)) (
    (codes "300906052b0e03021a0500", sha1)
    ∷ (codes "300706052b0e03021a", algorithm_of_oid sha1.oid None)
    ∷ (codes "300d06092a864886f70d0101010500", rsa_encryption)
    ∷ []
    )
unfolding hex digit header_at length_at
algorithms = refl

no_algorithms : RowsAreRejected (alone (algorithm_front any_front)) (
    (codes "3000", Incomplete)
    ∷ (codes "30020600", OidMalformed)
    ∷ (codes "30022b00", TagUnexpected object_identifier_tag (record { octet = 0x2b; allowed = refl }))
    ∷ (codes "300f06092a864886f70d01010105000500", TrailingData)
    ∷ []
    )
unfolding hex digit header_at length_at
no_algorithms = refl

mask_algorithms : RowsMean (alone (algorithm_front (algorithm_front any_front))) (
    (codes "301606092a864886f70d010108300906052b0e03021a0500", mgf1_sha1)
    ∷ (codes "300b06092a864886f70d010108", algorithm_of_oid mgf1_sha1.oid None)
    ∷ []
    )
unfolding hex digit header_at length_at
mask_algorithms = refl

no_mask_algorithms : RowsAreRejected (alone (algorithm_front (algorithm_front any_front))) (
    (codes "300d06092a864886f70d0101080500", TagUnexpected sequence_tag null_tag)
    ∷ []
    )
unfolding hex digit header_at length_at
no_mask_algorithms = refl

-- == RSASSA-PSS-params and RSAES-OAEP-params, alone and in their algorithm identifiers ==
abbrev pss_of_hash : Algorithm TagAndContents → ℕ → PssParameters
pss_of_hash hash salt = record { hash = hash; mask_gen = mgf1_sha1; salt_len = salt; trailer_field = 1 }

abbrev oaep_of_source : Algorithm TagAndContents → OaepParameters
oaep_of_source source = record { hash = sha1; mask_gen = mgf1_sha1; p_source = source }

pss_params : RowsMean rsa_pss_params (
    (codes "3000", pss_of_hash sha1 20)
    ∷ (codes "3005a203020114", pss_of_hash sha1 20)
    ∷ (
      codes "3031a00b300906052b0e03021a0500a118301606092a864886f70d010108300906052b0e03021a0500a203020114a303020101",
      pss_of_hash sha1 20,
    )
    ∷ (codes "3005a203020120", pss_of_hash sha1 32)
    ∷ (codes "300ba009300706052b0e03021a", pss_of_hash (algorithm_of_oid sha1.oid None) 20)
    ∷ []
    )
unfolding hex digit header_at length_at
pss_params = refl

no_pss_params : RowsAreRejected rsa_pss_params (
    (codes "", Incomplete)
    ∷ (codes "3001", Incomplete)
    ∷ (codes "300000", TrailingData)
    ∷ (codes "3003020132", TrailingData)
    -- Headers of a field.
    ∷ (codes "3002a280", IndefiniteLength)
    ∷ (codes "3003a28100", Overlength)
    ∷ (codes "3002a285", Overflow)
    ∷ (codes "3003a20302", Incomplete)
    -- Salt lengths; another fault follows one.
    ∷ (codes "3004a2020200", Length integer_tag)
    ∷ (codes "3009a2020200a303020102", Length integer_tag)
    ∷ (codes "3006a20402020014", Noncanonical integer_tag)
    ∷ (codes "3006a20402020100", Value integer_tag)
    ∷ (codes "3005a203040114", TagUnexpected integer_tag octet_string_tag)
    ∷ (codes "3006a20402011400", TrailingData)
    -- Another trailer field; fields that are unknown, late and repeated.
    ∷ (codes "3005a303020102", Value integer_tag)
    ∷ (codes "3005a403020101", TrailingData)
    ∷ (codes "300aa303020101a203020114", TrailingData)
    ∷ (codes "300aa203020114a203020114", TrailingData)
    -- Hash functions.
    ∷ (codes "3004a0021f00", TagUnknown 0x1f)
    ∷ (codes "3004a0020500", TagUnexpected sequence_tag null_tag)
    ∷ (codes "3006a00430020600", OidMalformed)
    ∷ (codes "300da00b300906052b0e03021a0502", Incomplete)
    ∷ []
    )
unfolding hex digit header_at length_at
no_pss_params = refl

oaep_params : RowsMean rsa_oaep_params (
    (codes "3000", oaep_of_source empty_label)
    ∷ (codes "300fa20d300b06092a864886f70d010109", oaep_of_source (algorithm_of_oid empty_label.oid None))
    ∷ (
      codes "3012a210300e06092a864886f70d010109040161",
      oaep_of_source (algorithm_of_oid empty_label.oid (Some (plain_any 4 (0x61 ∷ [])))),
    )
    ∷ []
    )
unfolding hex digit header_at length_at
oaep_params = refl

no_oaep_params : RowsAreRejected rsa_oaep_params (
    (codes "0500", TagUnexpected sequence_tag null_tag)
    ∷ (codes "300000", TrailingData)
    ∷ (codes "3008a006300406028001", OidMalformed)
    -- Fields of PSS.
    ∷ (codes "3005a303020101", TrailingData)
    ∷ (codes "3005a203020114", TagUnexpected sequence_tag integer_tag)
    ∷ []
    )
unfolding hex digit header_at length_at
no_oaep_params = refl

pss_algorithms : RowsMean rsa_pss_algorithm (
    (codes "300d06092a864886f70d01010a3000", pss_of_hash sha1 20)
    ∷ (codes "301206092a864886f70d01010a3005a203020114", pss_of_hash sha1 20)
    ∷ []
    )
unfolding hex digit header_at length_at
pss_algorithms = refl

no_pss_algorithms : RowsAreRejected rsa_pss_algorithm (
    (codes "300b06092a864886f70d01010a", ParametersMissing)
    ∷ (codes "300b06092a864886f70d010107", OidUnknown)
    ∷ (codes "300d06092a864886f70d01010a0500", TagUnexpected sequence_tag null_tag)
    ∷ []
    )
unfolding hex digit header_at length_at
no_pss_algorithms = refl

oaep_algorithms : RowsMean rsa_oaep_algorithm (
    (codes "300d06092a864886f70d0101073000", oaep_of_source empty_label)
    ∷ []
    )
unfolding hex digit header_at length_at
oaep_algorithms = refl

-- == PrivateKeyInfo, and the key in it ==
abbrev small_container : Container
small_container = record {
  algorithm = algorithm_of_oid (0x2a ∷ 0x03 ∷ []) None;
  private_key = 0x05 ∷ 0x0a ∷ [];
  attributes = None;
}

containers : RowsMean private_key_info (
    (codes "300d020100300406022a030402050a", small_container)
    ∷ []
    )
unfolding hex digit header_at length_at
containers = refl

no_containers : RowsAreRejected private_key_info (
    -- Version 1 (RFC 5958).
    (codes "3003020101", Value integer_tag)
    ∷ (codes "300d020101300406022a030402050a", Value integer_tag)
    -- NULL for the algorithm, an INTEGER for the octets, NULL behind them.
    ∷ (codes "30050201000500", TagUnexpected sequence_tag null_tag)
    ∷ (codes "300c020100300406022a03020105", TagUnexpected octet_string_tag integer_tag)
    ∷ (codes "300f020100300406022a030402050a0500", TrailingData)
    ∷ []
    )
unfolding hex digit header_at length_at
no_containers = refl

no_contained_keys : RowsAreRejected rsa_private_key_info (
    (codes "300d020100300406022a030402050a", OidUnknown)
    ∷ (codes "3014020100300b06092a864886f70d01010104023000", ParametersMissing)
    ∷ (codes "3016020100300d06092a864886f70d010101050004023006", Incomplete)
    ∷ []
    )
unfolding hex digit header_at length_at
no_contained_keys = refl
