-- Worked rows of `Structs.antt`: what structs hold, and what a call that writes says and leaves.
use Rattle.std.proofs.Common.{length, ℕ, List, [], ◌∷◌, ◌≡◌, arith, refl, Bool, true, false, Option, Some, None}
use Rattle.pkcs1.specs.Words.{listed_others, primes_encoded}
use Rattle.standard.specs.Statement.{Decodes, PrivateKeyEncoding, Algorithm, OtherPrime, PrivateKey, PublicKey, TagAndContents, rsa_encryption}
use Rattle.pkcs1_c.specs.Structs.{DecodesPrivateKey, PssIsTidy, AlgorithmIsTidy, ArePlaced, EncodingIfHeld, HasPrivateNumbers, HasPublicNumbers, HaveBytes, HoldsPrivateKey, HoldsPublicKey, InfoHasKey, InfoIsTidy, MaskGenIsTidy, OaepIsTidy, WritesOrTells, algorithm_seen, mask_gen_seen, numbers_of_key, oaep_seen, octets_of_key, private_key_info_seen, private_key_seen, pss_seen, public_key_seen}
use Rattle.std.specs.Borrow.{Bor}
use Rattle.pkcs1_c.specs.declared.algorithm.Algorithm as algorithms
use Rattle.pkcs1_c.specs.declared.algorithm.MaskGen.{MaskGen}
use Rattle.pkcs1_c.specs.declared.container.PrivateKeyInfo.{PrivateKeyInfo}
use Rattle.pkcs1_c.specs.declared.private_key.OtherPrime as prime_structs
use Rattle.pkcs1_c.specs.declared.private_key.PrivateKey as key_structs
use Rattle.pkcs1_c.specs.declared.public_key.PublicKey as public_structs

-- What a pointer and a length point to.
abbrev lent_at : List ℕ → Bor (List ℕ)
lent_at octets = record { ref_ptr = (0, 0); now = octets }

-- == Writing ==
abbrev NoOctets : ℕ → List ℕ → Type 0
NoOctets v octets = octets ≡ []

abbrev ItsOctet : ℕ → List ℕ → Type 0
ItsOctet v octets = octets ≡ 1 ∷ []

ok_writes : WritesOrTells ItsOctet 0 (0 ∷ []) (2 ∷ []) 0 1 0 → ⊥
ok_writes p = let same = (p.ok refl).1.0 in cc

no_room_fits : WritesOrTells ItsOctet 0 (0 ∷ []) (0 ∷ []) 0 1 15 → ⊥
no_room_fits p = omega (arith, (p.no_room refl).1)

no_room_tells : WritesOrTells ItsOctet 0 [] [] 0 2 15 → ⊥
no_room_tells p = let (octets, shortest, is) = (p.no_room refl).0 in let one = shortest.0 in grind arith

rejected_has_none : WritesOrTells ItsOctet 0 [] [] 0 0 8 → ⊥
rejected_has_none p = p.rejected (λ e. omega (arith, e)) (λ e. omega (arith, e)) (1 ∷ []) refl

unchanged_octets : WritesOrTells ItsOctet 0 [] (3 ∷ []) 0 1 15 → ⊥
unchanged_octets p = let same = (p.unchanged (λ e. omega (arith, e))).0 in cc

unchanged_length : WritesOrTells NoOctets 0 [] [] 5 6 8 → ⊥
unchanged_length p =
    omega (arith, (p.unchanged (λ e. omega (arith, e))).1 (λ e. omega (arith, e)))

not_held : EncodingIfHeld ⊥ ItsOctet 0 (1 ∷ []) → ⊥
not_held p = p.0

not_encoded : EncodingIfHeld (Unit {0}) ItsOctet 0 [] → ⊥
not_encoded p = let same = p.1 in cc

-- == Public keys ==
abbrev public_struct : public_structs.PublicKey
public_struct = record { modulus = lent_at (0 ∷ 1 ∷ 0 ∷ []); public_exponent = lent_at (3 ∷ []) }

abbrev public_meant : PublicKey
public_meant = record { modulus = 256; public_exponent = 3 }

public_struct_seen : public_key_seen public_struct ≡ public_meant
public_struct_seen = refl

public_struct_has_numbers : HasPublicNumbers public_struct
public_struct_has_numbers = (omega arith, omega arith)

public_struct_without_modulus : HasPublicNumbers (record { modulus = lent_at []; public_exponent = lent_at (3 ∷ []) })
    → ⊥
public_struct_without_modulus p = omega (arith, p.0)

public_struct_without_exponent : HasPublicNumbers (record { modulus = lent_at (3 ∷ []); public_exponent = lent_at [] })
    → ⊥
public_struct_without_exponent p = omega (arith, p.1)

public_struct_holds : HoldsPublicKey
    (record { modulus = lent_at (1 ∷ 0 ∷ []); public_exponent = lent_at (3 ∷ []) }) public_meant
public_struct_holds = (refl, refl)

-- == Parameters ==
abbrev algorithm_struct : algorithms.Algorithm
algorithm_struct =
    record { oid = lent_at (1 ∷ []); has_parameters = true; tag = 5; parameters = lent_at (7 ∷ []) }

abbrev bare_algorithm_struct : algorithms.Algorithm
bare_algorithm_struct =
    record { oid = lent_at (2 ∷ []); has_parameters = false; tag = 5; parameters = lent_at (7 ∷ []) }

abbrev algorithm_meant : Algorithm TagAndContents
algorithm_meant = record { oid = 1 ∷ []; parameters = Some (record { tag = 5; contents = 7 ∷ [] }) }

abbrev bare_algorithm_meant : Algorithm TagAndContents
bare_algorithm_meant = record { oid = 2 ∷ []; parameters = None }

algorithm_struct_seen : algorithm_seen algorithm_struct ≡ algorithm_meant
algorithm_struct_seen = refl

bare_algorithm_struct_seen : algorithm_seen bare_algorithm_struct ≡ bare_algorithm_meant
bare_algorithm_struct_seen = refl

abbrev mask_gen_struct : MaskGen
mask_gen_struct = record { oid = lent_at (3 ∷ []); has_hash = true; hash = algorithm_struct }

abbrev mask_gen_meant : Algorithm (Algorithm TagAndContents)
mask_gen_meant = record { oid = 3 ∷ []; parameters = Some algorithm_meant }

mask_gen_struct_seen : mask_gen_seen mask_gen_struct ≡ mask_gen_meant
mask_gen_struct_seen = refl

bare_mask_gen_struct_seen : mask_gen_seen (record { oid = lent_at (3 ∷ []); has_hash = false; hash = algorithm_struct })
    ≡ record { oid = 3 ∷ []; parameters = None }
bare_mask_gen_struct_seen = refl

pss_is : pss_seen (record
    { hash = bare_algorithm_struct; mask_gen = mask_gen_struct; salt_len = 32; trailer_field = 2 })
    ≡ record { hash = bare_algorithm_meant; mask_gen = mask_gen_meant; salt_len = 32; trailer_field = 2 }
pss_is = refl

oaep_is : oaep_seen (record { hash = bare_algorithm_struct; mask_gen = mask_gen_struct; p_source = algorithm_struct })
    ≡ record { hash = bare_algorithm_meant; mask_gen = mask_gen_meant; p_source = algorithm_meant }
oaep_is = refl

untidy_tag : AlgorithmIsTidy (record { oid = lent_at []; has_parameters = false; tag = 5; parameters = lent_at [] }) → ⊥
untidy_tag p = omega (arith, (p refl).0)

untidy_octets : AlgorithmIsTidy
    (record { oid = lent_at []; has_parameters = false; tag = 0; parameters = lent_at (1 ∷ []) }) → ⊥
untidy_octets p = let same = (p refl).1 in cc

untidy_mask_gen : MaskGenIsTidy (record { oid = lent_at []; has_hash = false; hash = bare_algorithm_struct }) → ⊥
untidy_mask_gen p = let same = (p.0 refl).0 in cc

untidy_source : OaepIsTidy (record {
  hash = algorithm_struct;
  mask_gen = mask_gen_struct;
  p_source = bare_algorithm_struct;
}) → ⊥
untidy_source p = omega (arith, (p.2 refl).0)

-- == Private keys ==
abbrev private_struct : ℕ → key_structs.PrivateKey
private_struct count = record {
  modulus = lent_at (7 ∷ []);
  public_exponent = lent_at (3 ∷ []);
  private_exponent = lent_at (5 ∷ []);
  prime1 = lent_at (11 ∷ []);
  prime2 = lent_at (13 ∷ []);
  exponent1 = lent_at (2 ∷ []);
  exponent2 = lent_at (4 ∷ []);
  coefficient = lent_at (6 ∷ []);
  other_primes = count;
}

abbrev prime_struct : prime_structs.OtherPrime
prime_struct = record { prime = lent_at (17 ∷ []); exponent = lent_at (8 ∷ []); coefficient = lent_at (9 ∷ []) }

abbrev private_meant : Option (List OtherPrime) → PrivateKey
private_meant others = record {
  modulus = 7;
  public_exponent = 3;
  private_exponent = 5;
  prime1 = 11;
  prime2 = 13;
  exponent1 = 2;
  exponent2 = 4;
  coefficient = 6;
  other_primes = others;
}

abbrev prime_meant : OtherPrime
prime_meant = record { prime = 17; exponent = 8; coefficient = 9 }

private_struct_seen : private_key_seen (private_struct 0) [] ≡ private_meant None
private_struct_seen = refl

private_struct_of_three_seen : private_key_seen (private_struct 1) (prime_struct ∷ [])
    ≡ private_meant (Some (prime_meant ∷ []))
private_struct_of_three_seen = refl

private_struct_numbers : numbers_of_key (private_struct 0) ≡ octets_of_key (private_meant None)
private_struct_numbers = refl

private_struct_numbers_listed : numbers_of_key (private_struct 0)
    ≡ (7 ∷ []) ∷ (3 ∷ []) ∷ (5 ∷ []) ∷ (11 ∷ []) ∷ (13 ∷ []) ∷ (2 ∷ [])
    ∷ (4 ∷ []) ∷ (6 ∷ []) ∷ []
private_struct_numbers_listed = refl

private_struct_miscounted : HasPrivateNumbers (private_struct 0) (prime_struct ∷ []) → ⊥
private_struct_miscounted p = omega (arith, p.0)

empty_number_has_no_bytes : HaveBytes ((1 ∷ []) ∷ [] ∷ []) → ⊥
empty_number_has_no_bytes p = omega (arith, p.1.0)

primes_placed : ArePlaced (prime_meant ∷ prime_meant ∷ []) (prime_struct ∷ [])
primes_placed = refl

empty_prime_not_placed : ArePlaced (prime_meant ∷ [])
    (record { prime = lent_at []; exponent = lent_at []; coefficient = lent_at [] } ∷ []) → ⊥
empty_prime_not_placed p = cc

private_struct_holds : HoldsPrivateKey (private_struct 1) (private_meant (Some (prime_meant ∷ [])))
private_struct_holds = (refl, refl)

-- == Containers ==
abbrev info_struct : Bool → PrivateKeyInfo
info_struct has = record { private_key = lent_at (1 ∷ []); has_attributes = has; attributes = lent_at (2 ∷ []) }

info_struct_with_attributes : private_key_info_seen (info_struct true)
    ≡ record { algorithm = rsa_encryption; private_key = 1 ∷ []; attributes = Some (2 ∷ []) }
info_struct_with_attributes = refl

info_struct_without_attributes : private_key_info_seen (info_struct false)
    ≡ record { algorithm = rsa_encryption; private_key = 1 ∷ []; attributes = None }
info_struct_without_attributes = refl

untidy_info : InfoIsTidy (info_struct false) → ⊥
untidy_info p = let same = p refl in cc

no_key : InfoHasKey (info_struct true) → ⊥
no_key p = let same = p.1.2 in cc

-- == What is claimed of any struct ==
another_exponent : HoldsPublicKey
    (record { modulus = lent_at (1 ∷ 0 ∷ []); public_exponent = lent_at (4 ∷ []) }) public_meant → ⊥
another_exponent p = let same = p.1 in cc

holds_says : (key : key_structs.PrivateKey) (v : PrivateKey) → HoldsPrivateKey key v
    → (numbers_of_key key ≡ octets_of_key v) × (key.other_primes ≡ length (listed_others v.other_primes))
holds_says key v p = (p.0, p.1)

decodes_says : (bytes list : List ℕ) (key : key_structs.PrivateKey) → DecodesPrivateKey bytes key list
    → (v : PrivateKey) × (Decodes PrivateKeyEncoding bytes (Some v) × (HoldsPrivateKey key v
    × (list ≡ primes_encoded (listed_others v.other_primes))))
decodes_says bytes list key p = (p.0, (p.1, (p.2, p.3)))

another_coefficient_not_placed : ArePlaced (prime_meant ∷ []) (record {
  prime = lent_at (17 ∷ []);
  exponent = lent_at (8 ∷ []);
  coefficient = lent_at (10 ∷ []);
} ∷ []) → ⊥
another_coefficient_not_placed p = cc

untidy_hash_of_mask : MaskGenIsTidy (record { oid = lent_at []; has_hash = true; hash = bare_algorithm_struct }) → ⊥
untidy_hash_of_mask p = omega (arith, (p.1 refl).0)

untidy_hash_of_pss : PssIsTidy (record
    { hash = bare_algorithm_struct; mask_gen = mask_gen_struct; salt_len = 32; trailer_field = 1 }) → ⊥
untidy_hash_of_pss p = omega (arith, (p.0 refl).0)
