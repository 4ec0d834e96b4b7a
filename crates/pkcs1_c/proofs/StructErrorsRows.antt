-- Worked rows of `StructErrors.antt`: the status of a struct that isn't written.
use Rattle.std.proofs.Common.{◌++◌, ◌<◌, ℕ, List, [], ◌∷◌, ◌≡◌, arith, refl, inl, inr, false, None, replicate, ap, length, sym, ◌∙◌, Result, Ok, Err}
use Rattle.der_core.specs.Words.{limit, header_at, length_at}
use Rattle.standard.specs.Statement.{TagAndContents, IsIdentifier, PssParameters, mgf1_sha1, octets, sha1}
use Rattle.std.specs.Borrow.{Bor}
use Rattle.pkcs1_c.specs.Status.{NoStatus, kind_number}
use Rattle.pkcs1_c.specs.StructErrors.{AnyError, FieldsError, HashFieldsThen, InfoError, Miscounted, NumberError, NumbersError, OaepFieldError, OidError, OptionError, PartThen, PrivateKeyError, PssFieldError, PublicKeyError, UnwrittenStatus, given_numbers, two_numbers}
use Rattle.der_core.specs.declared.error.ErrorKind.{ErrorKind}
use Rattle.pkcs1.specs.Words.{rsa_private_key}
use Rattle.der_core.specs.declared.error.ErrorKind.TheVariants.{Incomplete}
use Rattle.pkcs1_c.specs.declared.container.PrivateKeyInfo.{PrivateKeyInfo}
use Rattle.pkcs1_c.specs.declared.private_key.OtherPrime.{OtherPrime}
use Rattle.pkcs1_c.specs.declared.private_key.PrivateKey.{PrivateKey}
use Rattle.pkcs1_c.specs.declared.public_key.PublicKey.{PublicKey}
use Rattle.pkcs1_c.specs.Structs.{number_seen}

abbrev borrowed_at : List ℕ → Bor (List ℕ)
borrowed_at octets = record { ref_ptr = (0, 0); now = octets }

abbrev OneOctet : ℕ → List ℕ → Type 0
OneOctet v octets = octets ≡ 1 ∷ []

-- == Values without an encoding, and without room ==
no_room_for_one : UnwrittenStatus OneOctet 0 0 15
no_room_for_one = inr (refl, 1, (1 ∷ [], (refl, λ other is. inl is), refl), omega arith)

some_room : UnwrittenStatus OneOctet 0 1 15 → ⊥
some_room (inl p) = omega (arith, p.0)
some_room (inr (is, n, (octets, shortest, length_is), less)) =
    let one = shortest.0 in grind arith

unencoded_length : UnwrittenStatus (λ (v : ℕ) octets. ⊥) 0 9 8
unencoded_length = inl (refl, λ octets p. p)

has_encoding : UnwrittenStatus OneOctet 0 9 8 → ⊥
has_encoding (inl p) = p.1 (1 ∷ []) refl
has_encoding (inr p) = omega (arith, p.0)

-- == Parts, in order ==
first_part : PartThen (λ status. status ≡ 4) (λ status. status ≡ 6) 4
first_part = inl refl

second_part : PartThen (λ status. status ≡ 4) (λ status. status ≡ 6) 6 → ⊥
second_part (inl p) = omega (arith, p)
second_part (inr p) = p.0 4 refl

-- == Numbers ==
empty_number_length : NumberError [] 4
empty_number_length = inl (refl, refl)

empty_number_alone : NumberError [] 8 → ⊥
empty_number_alone (inl p) = omega (arith, p.0)
empty_number_alone (inr p) = omega (arith, p.1)

short_number : NumberError (1 ∷ []) 8 → ⊥
short_number (inl p) = omega (arith, p.0)
short_number (inr p) = omega (arith, p.2)

-- Zeros in front don't count.
one_with_zeros : (bytes : List ℕ) → number_seen bytes ≡ 1 → NumberError bytes 8 → ⊥
one_with_zeros bytes is (inl p) = omega (arith, p.0)
one_with_zeros bytes is (inr p) =
    let one : length (octets (number_seen bytes)) ≡ 1 = ap (λ n. length (octets n)) is in omega (arith, p.2, one)

no_numbers : NumbersError [] 4 → ⊥
no_numbers p = p

one_is_held : NoStatus (NumberError (1 ∷ []))
one_is_held status (inl p) = omega (arith, p.1)
one_is_held status (inr p) = omega (arith, p.2)

second_number : NumbersError ((1 ∷ []) ∷ [] ∷ []) 4
second_number = inr (one_is_held, inl (inl (refl, refl)))

-- == Keys ==
abbrev key_without_modulus : PublicKey
key_without_modulus = record { modulus = borrowed_at []; public_exponent = borrowed_at (2 ∷ []) }

numbers_of_public_key : two_numbers key_without_modulus ≡ [] ∷ (2 ∷ []) ∷ []
numbers_of_public_key = refl

missing_modulus_length : PublicKeyError key_without_modulus 0 4
missing_modulus_length = inl (inl (inl (refl, refl)))

-- A private key without a modulus that says how many other primes there are.
abbrev key_of_three_primes : ℕ → PrivateKey
key_of_three_primes count = record {
  modulus = borrowed_at [];
  public_exponent = borrowed_at (3 ∷ []);
  private_exponent = borrowed_at (5 ∷ []);
  prime1 = borrowed_at (11 ∷ []);
  prime2 = borrowed_at (13 ∷ []);
  exponent1 = borrowed_at (2 ∷ []);
  exponent2 = borrowed_at (4 ∷ []);
  coefficient = borrowed_at (6 ∷ []);
  other_primes = count;
}

abbrev third_prime : OtherPrime
third_prime =
    record { prime = borrowed_at (17 ∷ []); exponent = borrowed_at (8 ∷ []); coefficient = borrowed_at (9 ∷ []) }

numbers_of_private_key : given_numbers (key_of_three_primes 1) (third_prime ∷ [])
    ≡ [] ∷ (3 ∷ []) ∷ (5 ∷ []) ∷ (11 ∷ []) ∷ (13 ∷ []) ∷ (2 ∷ []) ∷ (4 ∷ []) ∷ (6 ∷ []) ∷ (17 ∷ []) ∷ (8 ∷ [])
    ∷ (9 ∷ []) ∷ []
numbers_of_private_key = refl

missing_prime_miscounted : Miscounted (key_of_three_primes 1) [] 21
missing_prime_miscounted = (refl, λ same. omega (arith, same))

given_prime_counted : Miscounted (key_of_three_primes 1) (third_prime ∷ []) 21 → ⊥
given_prime_counted p = p.1 refl

-- The count is told before the modulus.
count_first : PrivateKeyError (key_of_three_primes 1) [] 0 4 → ⊥
count_first (inl p) = omega (arith, p.0)
count_first (inr p) = p.0 21 missing_prime_miscounted

no_private_modulus : PrivateKeyError (key_of_three_primes 0) [] 0 4
no_private_modulus = inr (λ status p. p.1 refl, inl (inl (inl (refl, refl))))

-- == Containers ==
abbrev empty_info : PrivateKeyInfo
empty_info = record { private_key = borrowed_at []; has_attributes = false; attributes = borrowed_at [] }

no_octets_incomplete : rsa_private_key [] ≡ Err Incomplete
unfolding header_at length_at
no_octets_incomplete = refl

no_private_key : InfoError empty_info 0 2
no_private_key = inl (Incomplete, no_octets_incomplete, refl)

-- The number of a fault.
fault_number : {V : Type 0} → Result V ErrorKind → ℕ
fault_number (Ok v) = 0
fault_number (Err kind) = kind_number kind

only_its_fault : InfoError empty_info 0 8 → ⊥
unfolding fault_number
only_its_fault (inl (kind, given, number)) = omega (arith, number, ap fault_number (sym no_octets_incomplete ∙ given))
only_its_fault (inr p) = let same = p.0.1.2 in cc

-- == Identifiers and parameters ==
oid_of_forty_octets : OidError (replicate 40 1) 6
oid_of_forty_octets = (refl, λ p. omega (arith, p.4))

oid_of_one_octet : IsIdentifier (42 ∷ [])
oid_of_one_octet =
    ((42 ∷ []) ∷ [], omega arith, (([], 42, refl, tt, omega arith, λ same. omega (arith, same)), tt), refl, omega arith)

oid_of_one_octet_held : OidError (42 ∷ []) 6 → ⊥
oid_of_one_octet_held p = p.1 oid_of_one_octet

tag_of_31 : AnyError (record { tag = 31; contents = [] }) 12
tag_of_31 = inl (refl, refl)

tag_of_5 : AnyError (record { tag = 5; contents = [] }) 12 → ⊥
tag_of_5 (inl p) = let same = p.1 in cc
tag_of_5 (inr p) = omega (arith, p.0)

no_long_contents : AnyError (record { tag = 5; contents = [] }) 8 → ⊥
no_long_contents (inl p) = omega (arith, p.0)
no_long_contents (inr p) = omega (arith, p.2)

no_parameters : OptionError AnyError None 12 → ⊥
no_parameters p = p

-- The hash function is told before what follows it.
hash_first : HashFieldsThen (record { oid = replicate 40 1; parameters = None }) mgf1_sha1 (λ status. status ≡ 14) 6
hash_first = inl (inl oid_of_forty_octets)

abbrev usual_with_trailer : ℕ → PssParameters
usual_with_trailer trailer_field =
    record { hash = sha1; mask_gen = mgf1_sha1; salt_len = 20; trailer_field = trailer_field }

trailer_field_1 : PssFieldError (usual_with_trailer 1) 14 → ⊥
trailer_field_1 (inl (inl p)) = omega (arith, p.0)
trailer_field_1 (inl (inr (held, inl p))) = omega (arith, p.0)
trailer_field_1 (inl (inr (held, inr p))) = omega (arith, p.0)
trailer_field_1 (inr (held, inl (inl p))) = omega (arith, p.0)
trailer_field_1 (inr (held, inl (inr (mask_held, inl p)))) = omega (arith, p.0)
trailer_field_1 (inr (held, inl (inr (mask_held, inr (oid_held, inl p))))) = omega (arith, p.0)
trailer_field_1 (inr (held, inl (inr (mask_held, inr (oid_held, inr p))))) = omega (arith, p.0)
trailer_field_1 (inr (held, inr (mask_held, p))) = p.1 refl

source_last : OaepFieldError (record {
  hash = record { oid = replicate 40 1; parameters = None };
  mask_gen = mgf1_sha1;
  p_source = sha1;
}) 6
source_last = inl (inl oid_of_forty_octets)

field_first : FieldsError (λ (v status : ℕ). status ≡ 6) OneOctet 0 0 6
field_first = inl refl

contents_overflow : (v : TagAndContents) → AnyError v 8 → limit < length v.contents
contents_overflow v (inl p) = absurd (omega (arith, p.0))
contents_overflow v (inr p) = p.2

numbers_of_two_primes : given_numbers (key_of_three_primes 2) (third_prime ∷ third_prime ∷ [])
    ≡ given_numbers (key_of_three_primes 2) (third_prime ∷ []) ++ (17 ∷ []) ∷ (8 ∷ []) ∷ (9 ∷ []) ∷ []
numbers_of_two_primes = refl
