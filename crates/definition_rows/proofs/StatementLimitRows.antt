-- Worked rows of `specs/Statement.antt` of `standard`: what each promise says of any values, and what lies at the ends of
-- the definitions: at the limit and beyond, after the first of two, and one octet beside what is allowed.
use Rattle.std.proofs.Common.{ℕ, List, [], ◌∷◌, ◌++◌, ◌≡◌, ◌≢◌, ◌≤◌, ◌<◌, length, refl, ap, arith, Some, None, inl, inr, replicate, codes, drop, take, map, zero, suc}
use Rattle.std.specs.List.{AllByRecursion}
use Rattle.std.specs.Prelude.{◌↔◌, slice_index, nat_lt, if◌then◌else◌, true, false}
use Rattle.standard.specs.Hex.{digit, hex}
use Rattle.standard.specs.Statement.{Algorithm, AlgorithmEncoding, AreOctets, Container, ContainerEncoding, Encodes, Field, Fields, IfPresent, IsAlgorithm, IsAny, IsIdentifier, IsOaep, IsPss, IsShortest, Lists, OaepAlgorithmEncoding, OaepEncoding, OaepParameters, OtherPrime, PrivateKey, PrivateKeyEncoding, PssAlgorithmEncoding, PssEncoding, PssParameters, PublicKey, PublicKeyEncoding, SequenceOf, TagAndContents, algorithm, any, empty_label, id_rsaes_oaep, id_rsassa_pss, integer, integers, length_octets, limit, longest, mgf1_sha1, oaep_fields, octets, optional, other_primes, pss_fields, sequence, sha1, tlv}

-- == What writing and listing say, of any values ==
written_says : {V : Type 0} (Encoding : V → List ℕ → Type 0) (v : V) (old new : List ℕ) (n : ℕ)
    → Encodes Encoding v old new (Some n)
    → (n ≤ length old) × (IsShortest Encoding v (take n new) × (drop n new ≡ drop n old))
written_says Encoding v old new n p = (p.0, (p.1, p.2))

not_written_says : {V : Type 0} (Encoding : V → List ℕ → Type 0) (v : V) (old new bytes : List ℕ)
    → Encodes Encoding v old new None → Encoding v bytes → (new ≡ old) × (length old < length bytes)
not_written_says Encoding v old new bytes p is = (p.0, p.1 bytes is)

not_listed_says : {V : Type 0} (Is : V → Type 0) (fields : V → List Field) (v : V) → Lists Is fields v None → Is v
    → limit < length (longest (fields v))
not_listed_says Is fields v p is = p is

-- == At the limit ==
public_key_at_limit : (key : PublicKey) (bytes : List ℕ) → length bytes ≡ limit
    → bytes ≡ sequence (integers (key.modulus ∷ key.public_exponent ∷ [])) → PublicKeyEncoding key bytes
public_key_at_limit key bytes full is = (omega (arith, full), is)

container_at_limit : (c : Container) (bytes : List ℕ) → length bytes ≡ limit → IsAlgorithm IsAny c.algorithm
    → AreOctets c.private_key → IfPresent AreOctets c.attributes
    → bytes ≡ sequence (integer 0 ++ algorithm any c.algorithm ++ tlv 4 c.private_key ++ optional (tlv 160) c.attributes)
    → ContainerEncoding c bytes
container_at_limit c bytes full under key attributes is = (omega (arith, full), under, key, attributes, is)

algorithm_at_limit : (oid parameters bytes : List ℕ) → length bytes ≡ limit
    → bytes ≡ sequence (tlv 6 oid ++ parameters) → AlgorithmEncoding oid (λ v b. b ≡ v) parameters bytes
algorithm_at_limit oid parameters bytes full is = (omega (arith, full), parameters, refl, is)

sequence_at_limit : (octets bytes : List ℕ) → length bytes ≡ limit → bytes ≡ sequence octets
    → SequenceOf (λ v. v ≡ octets) (λ v. []) (λ fields contents. contents ≡ octets) octets bytes
sequence_at_limit octets bytes full is = (refl, omega (arith, full), octets, refl, is)

key_of_primes : List OtherPrime → PrivateKey
key_of_primes others = record {
  modulus = 7;
  public_exponent = 3;
  private_exponent = 5;
  prime1 = 11;
  prime2 = 13;
  exponent1 = 2;
  exponent2 = 4;
  coefficient = 6;
  other_primes = Some others;
}

private_key_at_limit : (other : OtherPrime) (bytes : List ℕ) → length bytes ≡ limit
    → bytes ≡ sequence (integers (1 ∷ 7 ∷ 3 ∷ 5 ∷ 11 ∷ 13 ∷ 2 ∷ 4 ∷ 6 ∷ []) ++ other_primes (other ∷ []))
    → PrivateKeyEncoding (key_of_primes (other ∷ [])) bytes
unfolding key_of_primes
private_key_at_limit other bytes full is = (omega (arith, full), omega arith, is)

-- == Beyond the limit ==
public_key_beyond_limit : (key : PublicKey) (bytes : List ℕ) → limit < length bytes → PublicKeyEncoding key bytes → ⊥
public_key_beyond_limit key bytes long p = omega (arith, long, p.0)

private_key_beyond_limit : (key : PrivateKey) (bytes : List ℕ) → limit < length bytes → PrivateKeyEncoding key bytes → ⊥
private_key_beyond_limit key bytes long p = omega (arith, long, p.0)

container_beyond_limit : (c : Container) (bytes : List ℕ) → limit < length bytes → ContainerEncoding c bytes → ⊥
container_beyond_limit c bytes long p = omega (arith, long, p.0)

algorithm_beyond_limit : (oid parameters bytes : List ℕ) → limit < length bytes
    → AlgorithmEncoding oid (λ v b. b ≡ v) parameters bytes → ⊥
algorithm_beyond_limit oid parameters bytes long p = omega (arith, long, p.0)

sequence_beyond_limit : (octets bytes : List ℕ) → limit < length bytes
    → SequenceOf (λ v. v ≡ octets) (λ v. []) (λ fields contents. contents ≡ octets) octets bytes → ⊥
sequence_beyond_limit octets bytes long p = omega (arith, long, p.1)

-- == Long numbers, long contents, the second of two ==
long_integer : (integer 32767 ≡ hex (codes "02027fff")) × (integer 65535 ≡ hex (codes "020300ffff"))
    × (integer 65536 ≡ hex (codes "0203010000"))
unfolding hex digit length_octets
long_integer = (refl, refl, refl)

long_lengths : (length_octets 65535 ≡ hex (codes "82ffff")) × (length_octets 65536 ≡ hex (codes "83010000"))
unfolding hex digit length_octets
long_lengths = (refl, refl)

two_other_primes : other_primes (record { prime = 17; exponent = 8; coefficient = 9 }
    ∷ record { prime = 19; exponent = 3; coefficient = 5 } ∷ [])
    ≡ hex (codes "30163009020111020108020109" ++ codes "3009020113020103020105")
unfolding hex digit length_octets
two_other_primes = refl

-- == Identifiers and tags at their ends ==
part_of_one : (oid : List ℕ) → AllByRecursion (λ b. b < 128) oid
    → AllByRecursion (λ id. (front : List ℕ) × (last : ℕ) × (id ≡ front ++ last ∷ [])
    × AllByRecursion (λ b. (128 ≤ b) × (b < 256)) front × (last < 128) × (slice_index id 0 ≢ 128))
    (map (λ b. b ∷ []) oid)
part_of_one [] below = tt
part_of_one (b ∷ oid) below =
    (([], b, refl, tt, below.0, λ e. omega (arith, below.0, e)), part_of_one oid below.1)

any_of_tag_254 : IsAny (record { tag = 254; contents = [] })
any_of_tag_254 = (refl, tt)

-- == Tags under the mask, and in a container ==
abbrev tag_0_held : Algorithm TagAndContents
tag_0_held = record { oid = 1 ∷ []; parameters = Some (record { tag = 0; contents = [] }) }

abbrev mask_of_tag_0 : Algorithm (Algorithm TagAndContents)
mask_of_tag_0 = record { oid = 1 ∷ []; parameters = Some tag_0_held }

pss_mask_of_tag_0 : IsPss (record { hash = sha1; mask_gen = mask_of_tag_0; salt_len = 20; trailer_field = 1 }) → ⊥
pss_mask_of_tag_0 p = let never = p.1.1.1.0 in cc

oaep_mask_of_tag_0 : IsOaep (record { hash = sha1; mask_gen = mask_of_tag_0; p_source = empty_label }) → ⊥
oaep_mask_of_tag_0 p = let never = p.1.1.1.0 in cc

container_of_tag_0 : (bytes : List ℕ)
    → ContainerEncoding (record { algorithm = tag_0_held; private_key = []; attributes = None }) bytes → ⊥
container_of_tag_0 bytes p = let never = p.1.1.0 in cc

-- == What only begins as a default isn't left out ==
abbrev sha1_bare : Algorithm TagAndContents
sha1_bare = record { oid = sha1.oid; parameters = None }

abbrev mgf1_bare : Algorithm (Algorithm TagAndContents)
mgf1_bare = record { oid = mgf1_sha1.oid; parameters = None }

abbrev label_bare : Algorithm TagAndContents
label_bare = record { oid = empty_label.oid; parameters = None }

none_left_out : Fields [] (1 ∷ []) → ⊥
none_left_out p = cc

parameters_of_pss : Algorithm TagAndContents → Algorithm (Algorithm TagAndContents) → ℕ → PssParameters
parameters_of_pss hash mask_gen salt_len =
    record { hash = hash; mask_gen = mask_gen; salt_len = salt_len; trailer_field = 1 }

bare_hash_written : Fields (pss_fields (parameters_of_pss sha1_bare mgf1_sha1 20)) [] → ⊥
unfolding parameters_of_pss
bare_hash_written (inl (hash, rest)) = let parameters = ap (λ a. a.parameters) hash in cc
bare_hash_written (inr (later, is, rest)) = cc

bare_mask_written : Fields (pss_fields (parameters_of_pss sha1 mgf1_bare 20)) [] → ⊥
unfolding parameters_of_pss
bare_mask_written (inl (hash, inl (mask, rest))) = let parameters = ap (λ a. a.parameters) mask in cc
bare_mask_written (inl (hash, inr (later, is, rest))) = cc
bare_mask_written (inr (later, is, rest)) = cc

salt_128_written : Fields (pss_fields (parameters_of_pss sha1 mgf1_sha1 128)) [] → ⊥
unfolding parameters_of_pss
salt_128_written (inl (hash, inl (mask, inl (salt, rest)))) = omega (arith, salt)
salt_128_written (inl (hash, inl (mask, inr (later, is, rest)))) = cc
salt_128_written (inl (hash, inr (later, is, rest))) = cc
salt_128_written (inr (later, is, rest)) = cc

bare_oaep_hash_written : Fields (oaep_fields (record { hash = sha1_bare; mask_gen = mgf1_sha1; p_source = empty_label }))
    [] → ⊥
bare_oaep_hash_written (inl (hash, rest)) = let parameters = ap (λ a. a.parameters) hash in cc
bare_oaep_hash_written (inr (later, is, rest)) = cc

bare_oaep_mask_written : Fields (oaep_fields (record { hash = sha1; mask_gen = mgf1_bare; p_source = empty_label })) [] → ⊥
bare_oaep_mask_written (inl (hash, inl (mask, rest))) = let parameters = ap (λ a. a.parameters) mask in cc
bare_oaep_mask_written (inl (hash, inr (later, is, rest))) = cc
bare_oaep_mask_written (inr (later, is, rest)) = cc

bare_source_written : Fields (oaep_fields (record { hash = sha1; mask_gen = mgf1_sha1; p_source = label_bare })) [] → ⊥
bare_source_written (inl (hash, inl (mask, inl (source, rest)))) = let parameters = ap (λ a. a.parameters) source in cc
bare_source_written (inl (hash, inl (mask, inr (later, is, rest)))) = cc
bare_source_written (inl (hash, inr (later, is, rest))) = cc
bare_source_written (inr (later, is, rest)) = cc

ones_below : (n : ℕ) → AllByRecursion (λ b. b < 128) (replicate n 1)
ones_below zero = tt
ones_below (suc n) = (omega arith, ones_below n)

identifier_of_39_octets : IsIdentifier (replicate 39 1)
identifier_of_39_octets =
    (map (λ b. b ∷ []) (replicate 39 1), omega arith, part_of_one (replicate 39 1) (ones_below 39), refl, omega arith)

-- Of any number, a zero stands in front of a first octet of 128 or more, and in front of no other.
high_integer : (n : ℕ) → nat_lt (slice_index (octets n) 0) 128 ≡ false → integer n ≡ tlv 2 (0 ∷ octets n)
high_integer n high = ap (λ low. tlv 2 (if low then octets n else (0 ∷ octets n))) high

low_integer : (n : ℕ) → nat_lt (slice_index (octets n) 0) 128 ≡ true → integer n ≡ tlv 2 (octets n)
low_integer n low = ap (λ low. tlv 2 (if low then octets n else (0 ∷ octets n))) low

-- == What is in an algorithm identifier, and which parameters may be encoded ==
pss_algorithm_says : (p : PssParameters) (bytes : List ℕ) → PssAlgorithmEncoding p bytes
    ↔ ((length bytes ≤ limit) × (parameters : List ℕ) × PssEncoding p parameters
    × (bytes ≡ sequence (tlv 6 id_rsassa_pss ++ parameters)))
pss_algorithm_says p bytes = (λ is. is, λ is. is)

oaep_algorithm_says : (p : OaepParameters) (bytes : List ℕ) → OaepAlgorithmEncoding p bytes
    ↔ ((length bytes ≤ limit) × (parameters : List ℕ) × OaepEncoding p parameters
    × (bytes ≡ sequence (tlv 6 id_rsaes_oaep ++ parameters)))
oaep_algorithm_says p bytes = (λ is. is, λ is. is)

pss_says : (p : PssParameters) (bytes : List ℕ) → PssEncoding p bytes
    ↔ (IsPss p × (length bytes ≤ limit) × (contents : List ℕ) × Fields (pss_fields p) contents
    × (bytes ≡ sequence contents))
pss_says p bytes = (λ is. is, λ is. is)

oaep_says : (p : OaepParameters) (bytes : List ℕ) → OaepEncoding p bytes
    ↔ (IsOaep p × (length bytes ≤ limit) × (contents : List ℕ) × Fields (oaep_fields p) contents
    × (bytes ≡ sequence contents))
oaep_says p bytes = (λ is. is, λ is. is)

algorithm_says : (Is : TagAndContents → Type 0) (oid : List ℕ) (v : TagAndContents)
    → (IsAlgorithm Is (record { oid = oid; parameters = Some v }) ↔ (IsIdentifier oid × Is v))
    × (IsIdentifier oid → IsAlgorithm Is (record { oid = oid; parameters = None }))
algorithm_says Is oid v = ((λ is. is, λ is. is), (λ is. (is, tt)))
