-- Worked rows of `specs/Statement.antt` of `standard`: each fails for a common mistake in a definition or in a promise.
use Rattle.std.proofs.Common.{ℕ, List, [], ◌∷◌, ◌++◌, ◌≡◌, ◌≢◌, ◌≤◌, ◌<◌, ◌∙◌, length, refl, ap, sym, arith, Some, None, inl, inr, codes, map, replicate, drop}
use Rattle.std.specs.Prelude.{slice_index}
use Rattle.std.specs.List.{AllByRecursion, concat}
use Rattle.standard.specs.Hex.{digit, hex}
use Rattle.standard.specs.Statement.{Algorithm, AreOctets, ContainedKeyEncoding, Container, ContainerEncoding, Fields, FieldsUnder, IsAny, IsBare, IsIdentifier, IsOaep, IsPss, OaepAlgorithmEncoding, OaepEncoding, OaepParameters, PrivateKey, PrivateKeyEncoding, PssAlgorithmEncoding, PssEncoding, PssParameters, PublicKey, PublicKeyEncoding, TagAndContents, empty_label, id_rsaes_oaep, integer, length_octets, mgf1_sha1, pss_fields, rsa_encryption, sequence, sha1, tlv}

-- == Lengths, numbers ==
length_octets_rows : (length_octets 127 ≡ hex (codes "7f")) × (length_octets 128 ≡ hex (codes "8180"))
    × (length_octets 255 ≡ hex (codes "81ff")) × (length_octets 256 ≡ hex (codes "820100"))
unfolding hex digit length_octets
length_octets_rows = (refl, refl, refl, refl)

integer_octets_rows : (integer 0 ≡ hex (codes "020100")) × (integer 127 ≡ hex (codes "02017f"))
    × (integer 128 ≡ hex (codes "02020080")) × (integer 256 ≡ hex (codes "02020100"))
unfolding hex digit length_octets
integer_octets_rows = (refl, refl, refl, refl)

-- == Keys: the order of their numbers ==
small_public_key : PublicKey
small_public_key = record { modulus = 7; public_exponent = 3 }

small_public_key_octets : (bytes : List ℕ) → PublicKeyEncoding small_public_key bytes
    → bytes ≡ hex (codes "3006020107020103")
unfolding small_public_key hex digit length_octets
small_public_key_octets bytes p = p.1

small_private_key : PrivateKey
small_private_key = record {
  modulus = 7;
  public_exponent = 3;
  private_exponent = 5;
  prime1 = 11;
  prime2 = 13;
  exponent1 = 2;
  exponent2 = 4;
  coefficient = 6;
  other_primes = Some (record { prime = 17; exponent = 8; coefficient = 9 } ∷ []);
}

small_private_key_octets : (bytes : List ℕ) → PrivateKeyEncoding small_private_key bytes → bytes ≡ hex
    (codes "302802010102010702010302010502010b02010d020102020104020106300b3009020111020108020109")
unfolding small_private_key hex digit length_octets
small_private_key_octets bytes p = p.2

-- == Containers ==
container_with_attributes : Container
container_with_attributes = record { algorithm = rsa_encryption; private_key = 1 ∷ []; attributes = Some [] }

container_with_attributes_octets : (bytes : List ℕ) → ContainerEncoding container_with_attributes bytes
    → bytes ≡ hex (codes "3017020100300d06092a864886f70d0101010500040101a000")
unfolding container_with_attributes hex digit length_octets
container_with_attributes_octets bytes p = p.4

-- A key in a container is under rsaEncryption.
contained_key_under_rsa : (bytes : List ℕ) → ContainedKeyEncoding small_private_key bytes
    → (c : Container) × ContainerEncoding c bytes × (c.algorithm.oid ≡ hex (codes "2a864886f70d010101"))
unfolding hex digit
contained_key_under_rsa bytes p = (p.0, p.1, ap (λ a. a.oid) p.2)

-- == Identifiers, tags ==
identifier_of_forty_octets : IsIdentifier (replicate 40 1) → ⊥
identifier_of_forty_octets p = omega (arith, p.4)

-- What is so of each subidentifier.
abbrev IsSubidentifierPart : List ℕ → Type 0
IsSubidentifierPart id =
    (front : List ℕ) × (last : ℕ) × (id ≡ front ++ last ∷ [])
    × AllByRecursion (λ b. (128 ≤ b) × (b < 256)) front × (last < 128) × (slice_index id 0 ≢ 128)

not_empty : (front rest : List ℕ) (last : ℕ) → [] ≡ (front ++ last ∷ []) ++ rest → ⊥
not_empty [] rest last e = cc
not_empty (f ∷ front) rest last e = cc

-- It is one octet if that is below 128, and doesn't begin with 128.
part_below : (front rest more : List ℕ) (last b : ℕ) → AllByRecursion (λ b. (128 ≤ b) × (b < 256)) front → b < 128
    → (front ++ last ∷ []) ++ rest ≡ b ∷ more → rest ≡ more
part_below [] rest more last b all below e = ap (drop 1) e
part_below (f ∷ front) rest more last b all below e =
    absurd (omega (arith, all.0.0, below, ap (λ octets. slice_index octets 0) e))

part_of_80 : (id : List ℕ) → IsSubidentifierPart id → (rest more : List ℕ) → id ++ rest ≡ 128 ∷ more → ⊥
part_of_80 [] (front, last, is, all, below, begins) rest more e =
    not_empty front [] last (ap (λ octets. octets ++ []) is)
part_of_80 (b ∷ id) (front, last, is, all, below, begins) rest more e = begins (ap (λ octets. slice_index octets 0) e)

parts_of_none : (ids : List (List ℕ)) → 0 < length ids → AllByRecursion IsSubidentifierPart ids → [] ≡ concat ids → ⊥
parts_of_none [] some all e = omega (arith, some)
parts_of_none (id ∷ ids) some all e =
    not_empty all.0.0 (concat ids) all.0.1 (e ∙ ap (λ it. it ++ concat ids) all.0.2)

identifier_of_no_octets : IsIdentifier [] → ⊥
identifier_of_no_octets p = parts_of_none p.0 p.1 p.2 p.3

parts_of_80 : (ids : List (List ℕ)) → AllByRecursion IsSubidentifierPart ids → (more : List ℕ) → concat ids ≡ 128 ∷ more
    → ⊥
parts_of_80 [] all more e = cc
parts_of_80 (id ∷ ids) all more e = part_of_80 id all.0 (concat ids) more e

second_begins_with_80 : (ids : List (List ℕ)) → AllByRecursion IsSubidentifierPart ids
    → hex (codes "2a8001") ≡ concat ids → ⊥
unfolding hex digit
second_begins_with_80 [] all e = cc
second_begins_with_80 (id ∷ ids) all e =
    let first = ap (λ it. it ++ concat ids) (sym all.0.2) ∙ sym e in
    parts_of_80 ids all.1 (1 ∷ [])
    (part_below all.0.0 (concat ids) (128 ∷ 1 ∷ []) all.0.1 42 all.0.3 (omega arith) first)

identifier_with_part_of_80 : IsIdentifier (hex (codes "2a8001")) → ⊥
identifier_with_part_of_80 p = second_begins_with_80 p.0 p.2 p.3

oaep_identifier_octets : id_rsaes_oaep ≡ hex (codes "2a864886f70d010107")
unfolding hex digit
oaep_identifier_octets = refl

any_of_tag_0 : IsAny (record { tag = 0; contents = [] }) → ⊥
any_of_tag_0 p = let never = p.0 in cc

any_of_tag_32 : IsAny (record { tag = 32; contents = [] }) → ⊥
any_of_tag_32 p = let never = p.0 in cc

any_of_tag_256 : IsAny (record { tag = 256; contents = [] }) → ⊥
any_of_tag_256 p = let never = p.0 in cc

any_of_octet_256 : IsAny (record { tag = 5; contents = 256 ∷ [] }) → ⊥
any_of_octet_256 p = omega (arith, p.1.0)

not_an_octet : AreOctets (256 ∷ []) → ⊥
not_an_octet p = omega (arith, p.0)

-- == Parameters ==
usual_pss_parameters : PssParameters
usual_pss_parameters = record { hash = sha1; mask_gen = mgf1_sha1; salt_len = 20; trailer_field = 1 }

salt_256 : IsPss (record { hash = sha1; mask_gen = mgf1_sha1; salt_len = 256; trailer_field = 1 }) → ⊥
salt_256 p = omega (arith, p.2)

-- NULL without octets is copied without memory; with an octet it isn't.
sha1_is_bare : IsBare sha1
sha1_is_bare = refl

null_with_octet_is_not_bare : IsBare (record { oid = []; parameters = Some (record { tag = 5; contents = 1 ∷ [] }) })
    → ⊥
null_with_octet_is_not_bare p = cc

abbrev of_tag_0 : Algorithm TagAndContents
of_tag_0 = record { oid = 1 ∷ []; parameters = Some (record { tag = 0; contents = [] }) }

hash_of_tag_0 : IsPss (record { hash = of_tag_0; mask_gen = mgf1_sha1; salt_len = 20; trailer_field = 1 }) → ⊥
hash_of_tag_0 p = let never = p.0.1.0 in cc

source_of_tag_0 : IsOaep (record { hash = sha1; mask_gen = mgf1_sha1; p_source = of_tag_0 }) → ⊥
source_of_tag_0 p = let never = p.2.1.0 in cc

-- An algorithm with parameters begins with its own identifier.
BeginsWithIdentifier : List ℕ → List ℕ → Type 0
BeginsWithIdentifier oid bytes = (parameters : List ℕ) × (bytes ≡ sequence (tlv 6 oid ++ parameters))

pss_algorithm_begins : (p : PssParameters) (bytes : List ℕ) → PssAlgorithmEncoding p bytes
    → BeginsWithIdentifier (hex (codes "2a864886f70d01010a")) bytes
unfolding BeginsWithIdentifier hex digit
pss_algorithm_begins p bytes is = (is.1, is.3)

oaep_algorithm_begins : (p : OaepParameters) (bytes : List ℕ) → OaepAlgorithmEncoding p bytes
    → BeginsWithIdentifier (hex (codes "2a864886f70d010107")) bytes
unfolding BeginsWithIdentifier hex digit
oaep_algorithm_begins p bytes is = (is.1, is.3)

-- Fields that have their defaults may be left out, and may be written.
all_left_out : Fields (pss_fields usual_pss_parameters) []
unfolding usual_pss_parameters
all_left_out = inl (refl, inl (refl, inl (refl, inl (refl, refl))))

salt_written : Fields (pss_fields usual_pss_parameters) (hex (codes "a203020114"))
unfolding usual_pss_parameters hex digit length_octets
salt_written = inl (refl, inl (refl, inr ([], refl, inl (refl, refl))))

-- The salt length is the third of them: bit 2.
salt_alone : FieldsUnder 4 (pss_fields usual_pss_parameters) (hex (codes "a203020114"))
unfolding usual_pss_parameters hex digit length_octets
salt_alone =
    inl (refl, 2, refl, inl (refl, 1, refl, inr (inl (refl, 0, refl, [], refl, inl (refl, 0, refl, (refl, refl))))))

-- == What is an encoding, and what may be encoded: each of these would fail if a definition asked for more ==
public_key_encoded : PublicKeyEncoding small_public_key (hex (codes "3006020107020103"))
unfolding small_public_key hex digit length_octets
public_key_encoded = (omega arith, refl)

private_key_encoded : PrivateKeyEncoding small_private_key (hex
    (codes "302802010102010702010302010502010b02010d020102020104020106300b3009020111020108020109"))
unfolding small_private_key hex digit length_octets
private_key_encoded = (omega arith, omega arith, refl)

one_octet : (b : ℕ) → b < 128 → IsSubidentifierPart (b ∷ [])
one_octet b below = ([], b, refl, tt, below, λ e. omega (arith, below, e))

two_octets : (a b : ℕ) → 128 < a → a < 256 → b < 128 → IsSubidentifierPart (a ∷ b ∷ [])
two_octets a b above octet below =
    (a ∷ [], b, refl, ((omega (arith, above), octet), tt), below, λ e. omega (arith, above, e))

two_parts_are_identifier : IsIdentifier (hex (codes "2a8648"))
unfolding hex digit
two_parts_are_identifier = (
  (42 ∷ []) ∷ (134 ∷ 72 ∷ []) ∷ [],
  omega arith,
  (one_octet 42 (omega arith), (two_octets 134 72 (omega arith) (omega arith) (omega arith), tt)),
  refl,
  omega arith,
)

octets_of_both_ends : AreOctets (0 ∷ 255 ∷ [])
octets_of_both_ends = (omega arith, (omega arith, tt))

any_of_tag_190 : IsAny (record { tag = 190; contents = 255 ∷ [] })
any_of_tag_190 = (refl, (omega arith, tt))

abbrev under_2a8648 : Container
under_2a8648 = record {
  algorithm = record { oid = hex (codes "2a8648"); parameters = None };
  private_key = 255 ∷ [];
  attributes = Some (255 ∷ []);
}

container_of_any_algorithm_encoded : ContainerEncoding under_2a8648 (hex (codes "3010020100300506032a86480401ffa001ff"))
unfolding hex digit length_octets
container_of_any_algorithm_encoded =
    (omega arith, (two_parts_are_identifier, tt), (omega arith, tt), (omega arith, tt), refl)

-- Whatever else the container holds.
contained_key_encoded : (c : Container) (bytes : List ℕ) → ContainerEncoding c bytes → c.algorithm ≡ rsa_encryption
    → PrivateKeyEncoding small_private_key c.private_key → ContainedKeyEncoding small_private_key bytes
contained_key_encoded c bytes is under holds = (c, is, under, holds)

attribute_of_256 : (bytes : List ℕ)
    → ContainerEncoding (record { algorithm = rsa_encryption; private_key = []; attributes = Some (256 ∷ []) }) bytes
    → ⊥
attribute_of_256 bytes p = omega (arith, p.3.0)

key_octet_of_256 : (bytes : List ℕ)
    → ContainerEncoding (record { algorithm = rsa_encryption; private_key = 256 ∷ []; attributes = None }) bytes → ⊥
key_octet_of_256 bytes p = omega (arith, p.2.0)

one_octet_each : (bs : List ℕ) → AllByRecursion (λ b. b < 128) bs
    → AllByRecursion IsSubidentifierPart (map (λ b. b ∷ []) bs)
one_octet_each [] below = tt
one_octet_each (b ∷ bs) below = (one_octet b below.0, one_octet_each bs below.1)

-- 1.2.840.113549.1.1 and one more
abbrev parts_of_pkcs1 : ℕ → List (List ℕ)
parts_of_pkcs1 last = (42 ∷ []) ∷ (134 ∷ 72 ∷ []) ∷ (134 ∷ 247 ∷ 13 ∷ []) ∷ (1 ∷ []) ∷ (1 ∷ []) ∷ (last ∷ []) ∷ []

are_parts_of_pkcs1 : (last : ℕ) → last < 128 → AllByRecursion IsSubidentifierPart (parts_of_pkcs1 last)
are_parts_of_pkcs1 last below =
    let third : IsSubidentifierPart (134 ∷ 247 ∷ 13 ∷ []) = (
      134 ∷ 247 ∷ [],
      13,
      refl,
      ((omega arith, omega arith), ((omega arith, omega arith), tt)),
      omega arith,
      λ e. omega (arith, e),
    ) in
    let later = one_octet_each (1 ∷ 1 ∷ last ∷ []) (omega arith, (omega arith, (below, tt))) in
    (one_octet 42 (omega arith), (two_octets 134 72 (omega arith) (omega arith) (omega arith), (third, later)))

empty_label_is_identifier : IsIdentifier empty_label.oid
empty_label_is_identifier = (parts_of_pkcs1 9, omega arith, are_parts_of_pkcs1 9 (omega arith), refl, omega arith)

mgf1_is_identifier : IsIdentifier mgf1_sha1.oid
mgf1_is_identifier = (parts_of_pkcs1 8, omega arith, are_parts_of_pkcs1 8 (omega arith), refl, omega arith)

sha1_is_identifier : IsIdentifier sha1.oid
sha1_is_identifier =
    let below : AllByRecursion (λ b. b < 128) sha1.oid = (omega arith, (omega arith, (omega arith, (omega arith, (omega arith, tt))))) in
    let parts = one_octet_each sha1.oid below in
    ((43 ∷ []) ∷ (14 ∷ []) ∷ (3 ∷ []) ∷ (2 ∷ []) ∷ (26 ∷ []) ∷ [], omega arith, parts, refl, omega arith)

salt_255 : IsPss (record { hash = sha1; mask_gen = mgf1_sha1; salt_len = 255; trailer_field = 1 })
salt_255 =
    ((sha1_is_identifier, (refl, tt)), (mgf1_is_identifier, (sha1_is_identifier, (refl, tt))), omega arith, refl)

usual_pss_encoded : PssEncoding usual_pss_parameters (hex (codes "3000"))
unfolding usual_pss_parameters hex digit length_octets
usual_pss_encoded = (
  ((sha1_is_identifier, (refl, tt)), (mgf1_is_identifier, (sha1_is_identifier, (refl, tt))), omega arith, refl),
  omega arith,
  [],
  inl (refl, inl (refl, inl (refl, inl (refl, refl)))),
  refl,
)

usual_pss_algorithm_encoded : PssAlgorithmEncoding usual_pss_parameters (hex (codes "300d06092a864886f70d01010a3000"))
unfolding hex digit length_octets
usual_pss_algorithm_encoded = (omega arith, 48 ∷ 0 ∷ [], usual_pss_encoded, refl)

usual_oaep_encoded : OaepEncoding (record { hash = sha1; mask_gen = mgf1_sha1; p_source = empty_label })
    (hex (codes "3000"))
unfolding hex digit length_octets
usual_oaep_encoded = (
  ((sha1_is_identifier, (refl, tt)), (mgf1_is_identifier, (sha1_is_identifier, (refl, tt))), (empty_label_is_identifier, (refl, tt))),
  omega arith,
  [],
  inl (refl, inl (refl, inl (refl, refl))),
  refl,
)
