-- Worked rows: what the definitions say of single values. Each is computed, so a mistake in a definition is a row that
-- isn't proved.
use Rattle.std.proofs.Common.{ℕ, List, [], ◌∷◌, ◌++◌, ◌≡◌, ◌<◌, ◌+◌, ◌∙◌, length, refl, subst, ap, arith, Some, None, inl, codes, ◌^◌}
use Rattle.standard.specs.Hex.{digit, hex}
use Rattle.standard.specs.Statement.{AlgorithmEncoding, Container, ContainerEncoding, Defaults, IfPresent, IsAny, IsPss, OtherPrime, PrivateKey, PrivateKeyEncoding, PssParameters, algorithm, any, empty_label, id_rsassa_pss, integer, length_octets, limit, longest, mgf1_sha1, oaep_fields, pss_fields, rsa_encryption, sequence, sha1, tlv, version}

limit_is : limit + 1 ≡ 256 ^ 4
limit_is = refl

-- == INTEGER, SEQUENCE ==
integer_without_zero : integer 127 ≡ hex (codes "02017f")
unfolding hex digit length_octets
integer_without_zero = refl

integer_with_zero : integer 128 ≡ hex (codes "02020080")
unfolding hex digit length_octets
integer_with_zero = refl

empty_sequence : sequence [] ≡ hex (codes "3000")
unfolding hex digit length_octets
empty_sequence = refl

long_form_tag : IsAny (record { tag = 31; contents = [] }) → ⊥
long_form_tag p = let never = p.0 in cc

-- == Private keys ==
version_numbers : (version None ≡ 0) × (version (Some []) ≡ 1)
version_numbers = (refl, refl)

no_other_prime : (key : PrivateKey) (bytes : List ℕ) → key.other_primes ≡ Some [] → PrivateKeyEncoding key bytes → ⊥
no_other_prime key bytes none p =
    let some : 0 < 0 = subst (IfPresent (λ (others : List OtherPrime). 0 < length others)) none p.1 in
    omega (arith, some)

-- == Containers ==
sample_container : Container
sample_container = record { algorithm = rsa_encryption; private_key = 1 ∷ []; attributes = None }

sample_container_octets : (bytes : List ℕ) → ContainerEncoding sample_container bytes
    → bytes ≡ hex (codes "3015020100300d06092a864886f70d0101010500040101")
unfolding sample_container hex digit length_octets
sample_container_octets bytes p = p.4

-- == Parameters ==
-- What stands behind the identifier is the parameters, and nothing behind them.
parameters_behind : (oid parameters bytes : List ℕ) → AlgorithmEncoding oid (λ v b. b ≡ v) parameters bytes
    → bytes ≡ sequence (tlv 6 oid ++ parameters)
parameters_behind oid parameters bytes p = p.3 ∙ ap (λ b. sequence (tlv 6 oid ++ b)) p.2

pss_identifier_octets : id_rsassa_pss ≡ hex (codes "2a864886f70d01010a")
unfolding hex digit
pss_identifier_octets = refl

mgf1_is : algorithm (algorithm any) mgf1_sha1 ≡ hex (codes "301606092a864886f70d010108300906052b0e03021a0500")
unfolding hex digit length_octets
mgf1_is = refl

usual_pss : ℕ → PssParameters
usual_pss trailer_field = record { hash = sha1; mask_gen = mgf1_sha1; salt_len = 20; trailer_field = trailer_field }

all_of_pss : longest (pss_fields (usual_pss 1)) ≡ hex (codes
    "3031a00b300906052b0e03021a0500a118301606092a864886f70d010108300906052b0e03021a0500a203020114a303020101")
unfolding usual_pss hex digit length_octets
all_of_pss = refl

all_of_oaep : longest (oaep_fields (record { hash = sha1; mask_gen = mgf1_sha1; p_source = empty_label })) ≡ hex (codes
    "3038a00b300906052b0e03021a0500a118301606092a864886f70d010108300906052b0e03021a0500a20f300d06092a864886f70d0101090400")
unfolding hex digit length_octets
all_of_oaep = refl

four_defaults : Defaults (pss_fields (usual_pss 1)) 4
unfolding usual_pss
four_defaults = inl (refl, 3, refl, inl (refl, 2, refl, inl (refl, 1, refl, inl (refl, 0, refl, refl))))

trailer_field_two : IsPss (usual_pss 2) → ⊥
unfolding usual_pss
trailer_field_two p = omega (arith, p.3)
