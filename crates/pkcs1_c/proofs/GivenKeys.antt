-- Keys and other primes that the caller passes: their numbers, their encodings, their length. For the calls that write
-- keys, and `src/given_primes.rt`.
use Rattle.std.proofs.Common.{ℕ, List, [], ◌∷◌, ◌++◌, ◌≡◌, ◌≤◌, ◌∙◌, length, length-append, map, subst, sym, ap, arith, rules, nat_lt, ◌↔◌, slice_index, if◌then◌else◌, ◌+◌, ◌-◌, ◌<◌, take, drop, get_or, refl, Some}
use Rattle.std.specs.List.{AllByRecursion, concat}
use Rattle.std.proofs.lemmas.Grind.{common_steps}
use Rattle.der_core.specs.Words.{tlv_fit, limit, Spells, all_encodings, bytes_of}
use Rattle.pkcs1.specs.Words.{IsPrivateKey, held_public_key, number_in, public_encoding, public_as_stated, private_as_stated, private_encoding, private_itself, private_stated, private_as, AnyNumber, PrivateIsValid, PublicIsValid, public_row, OtherIsValid, primes_printed, other_from, other_stated}
use Rattle.pkcs1.specs.Keys as keys
use Rattle.pkcs1.specs.declared.public_key.RsaPublicKey.{RsaPublicKey}
use Rattle.standard.specs.Statement as statement
use Rattle.standard.specs.Statement.{PrivateKeyEncoding, PublicKeyEncoding, integer, integers, octets, optional, sequence, version}
use Rattle.der_core.specs.declared.integer.uint.UintRef.{UintRef}
use Rattle.pkcs1_c.specs.declared.private_key.OtherPrime.{OtherPrime}
use Rattle.pkcs1_c.specs.declared.private_key.PrivateKey.{PrivateKey}
use Rattle.pkcs1_c.specs.declared.public_key.PublicKey.{PublicKey}
use Rattle.pkcs1_c.specs.Words.{NoStatus, NumberError, NumbersError, given_numbers, numbers_of_primes, two_numbers, HasPublicNumbers, HasPrivateNumbers, HaveBytes, number_seen, numbers_of_key, numbers_of_prime, other_prime_seen, other_primes_seen, private_key_seen, public_key_seen, given_encoded}
use Rattle.pkcs1_c.proofs.StructErrors.{numbers_have, numbers_none_apart, numbers_none_both, part_none}
use Rattle.der_core.proofs.Items.{encodings_around}

-- == Numbers in an encoding within the limit ==
number_fits : (n : ℕ) → length (octets n) ≤ length (integer n)
number_fits n =
    let fit = tlv_fit 2 (if nat_lt (slice_index (octets n) 0) 128 then octets n else (0 ∷ octets n)) in grind arith

numbers_fit : (ns : List (List ℕ)) → HaveBytes ns → length (integers (map number_seen ns)) ≤ limit
    → NoStatus (NumbersError ns)
numbers_fit [] some few = λ s p. p
numbers_fit (n ∷ ns) some few =
    let l = length-append (integer (number_seen n)) (integers (map number_seen ns)) in
    part_none (NumberError n) (NumbersError ns)
    (λ s p. omega (arith, number_fits (number_seen n)))
    (numbers_fit ns some.1 (omega arith))

pub public_fits : (key : PublicKey) → HasPublicNumbers key → (bytes : List ℕ)
    → PublicKeyEncoding (public_key_seen key) bytes
    → NoStatus (NumbersError (two_numbers key))
public_fits key some bytes p =
    let ns = two_numbers key in
    numbers_fit ns (some.0, (some.1, tt))
    (omega (arith, tlv_fit 48 (integers (map number_seen ns)), ap length p.1))

abbrev prime_contents : statement.OtherPrime → List ℕ
prime_contents o = integers (o.prime ∷ o.exponent ∷ o.coefficient ∷ [])

abbrev HavePrimes : List OtherPrime → Type 0
HavePrimes = AllByRecursion (λ o. HaveBytes (numbers_of_prime o))

primes_fit : (others : List OtherPrime) → HavePrimes others
    → length (concat (map (λ o. sequence (prime_contents o)) (map other_prime_seen others))) ≤ limit
    → NoStatus (NumbersError (numbers_of_primes others))
primes_fit [] some few = λ s p. p
primes_fit (o ∷ others) some few =
    let c = prime_contents (other_prime_seen o) in
    let l = length-append (sequence c)
    (concat (map (λ o. sequence (prime_contents o)) (map other_prime_seen others))) in
    numbers_none_both (numbers_of_prime o) (numbers_of_primes others)
    (numbers_fit (numbers_of_prime o) some.0 (omega (arith, tlv_fit 48 c)))
    (primes_fit others some.1 (omega arith))

listed_fit : (others : List OtherPrime) → HavePrimes others
    → length (optional statement.other_primes (other_primes_seen others)) ≤ limit
    → NoStatus (NumbersError (numbers_of_primes others))
listed_fit [] some few = λ s p. p
listed_fit (o ∷ others) some few =
    let c = concat (map (λ o. sequence (prime_contents o)) (map other_prime_seen (o ∷ others))) in
    primes_fit (o ∷ others) some (omega (arith, tlv_fit 48 c))

pub private_fits : (key : PrivateKey) (others : List OtherPrime) → HasPrivateNumbers key others → (bytes : List ℕ)
    → PrivateKeyEncoding (private_key_seen key others) bytes → NoStatus (NumbersError (given_numbers key others))
private_fits key others some bytes p =
    let ns = numbers_of_key key in
    let first = integer (version (other_primes_seen others)) in
    let list = optional statement.other_primes (other_primes_seen others) in
    let front = first ++ integers (map number_seen ns) in
    let whole : length (front ++ list) ≤ limit = omega (arith, tlv_fit 48 (front ++ list), ap length p.2) in
    let l = length-append front list in
    let m = length-append first (integers (map number_seen ns)) in
    numbers_none_both ns (numbers_of_primes others) (numbers_fit ns some.1 (omega arith))
    (listed_fit others some.2 (omega arith))

-- == Numbers that can be held ==
primes_have : (others : List OtherPrime) → NoStatus (NumbersError (numbers_of_primes others)) → HavePrimes others
primes_have [] none = tt
primes_have (o ∷ others) none =
    let p = numbers_none_apart (numbers_of_prime o) (numbers_of_primes others) none in
    (numbers_have (numbers_of_prime o) p.0, primes_have others p.1)

pub private_has : (key : PrivateKey) (others : List OtherPrime) → key.other_primes ≡ length others
    → NoStatus (NumbersError (given_numbers key others)) → HasPrivateNumbers key others
private_has key others count none =
    let p = numbers_none_apart (numbers_of_key key) (numbers_of_primes others) none in
    (count, numbers_have (numbers_of_key key) p.0, primes_have others p.1)

-- == What is made of them ==
abbrev pub GivenPublicSpells : keys.PublicRow ℕ → List ℕ → Type 0
GivenPublicSpells = Spells PublicIsValid public_encoding (λ row. row)

abbrev pub GivenPrivateSpells : keys.PrivateRow ℕ → List ℕ → Type 0
GivenPrivateSpells = Spells (PrivateIsValid AnyNumber) private_encoding (λ key. key)

-- Its numbers mean themselves.
given_private_same : (key : keys.PrivateRow ℕ) (bytes : List ℕ) → GivenPrivateSpells key bytes
    ↔ Spells (PrivateIsValid AnyNumber) private_encoding (private_as (λ n. n)) key bytes
given_private_same key bytes = (
  λ (few, (s, is, valid, same)). (few, (s, private_itself s ∙ is, valid, same)),
  λ (few, (s, is, valid, same)). (few, (s, sym (private_itself s) ∙ is, valid, same)),
)

-- What is made has the encodings of what the struct holds.
pub given_public_spelled : (key : PublicKey) (made : RsaPublicKey UintRef)
    → held_public_key bytes_of made ≡ public_key_seen key
    → (bytes : List ℕ)
    → GivenPublicSpells (public_row (number_in bytes_of) made) bytes
    ↔ PublicKeyEncoding (public_key_seen key) bytes
given_public_spelled key made same bytes =
    subst (λ v. GivenPublicSpells (public_row (number_in bytes_of) made) bytes ↔ PublicKeyEncoding v bytes) same
    (public_as_stated.same (public_row (number_in bytes_of) made) bytes)

pub given_private_spelled : (key : PrivateKey) (others : List OtherPrime) (made : keys.PrivateRow ℕ)
    → private_stated made ≡ private_key_seen key others → (bytes : List ℕ)
    → GivenPrivateSpells made bytes ↔ PrivateKeyEncoding (private_key_seen key others) bytes
given_private_spelled key others made same bytes =
    let itself = given_private_same made bytes in
    let spelled = private_as_stated.same made bytes in
    subst (λ v. GivenPrivateSpells made bytes ↔ PrivateKeyEncoding v bytes) same
    (λ p. spelled.0 (itself.0 p), λ p. itself.1 (spelled.1 p))

-- It is valid.
pub given_private_valid : (key : PrivateKey) (others : List OtherPrime) (made : keys.PrivateRow ℕ)
    → private_stated made ≡ private_key_seen key others → PrivateIsValid AnyNumber made
given_private_valid key others made same =
    let is : IsPrivateKey (private_key_seen key others) = search rules in
    subst (PrivateIsValid AnyNumber) (private_itself made)
    ((private_as_stated.valid made).1 (subst IsPrivateKey (sym same) is))

-- == Other primes that the caller passes: their encodings are those of the primes with these numbers ==

-- What is printed of the primes.
pub given_encodings_are : (others : List OtherPrime)
    → all_encodings given_encoded others ≡ primes_printed integer (map (λ o. other_from (other_prime_seen o)) others)
given_encodings_are [] = refl
given_encodings_are (o ∷ others) = ap (λ rest. given_encoded o ++ rest) (given_encodings_are others)

pub given_primes_valid : (others : List OtherPrime)
    → AllByRecursion (OtherIsValid AnyNumber) (map (λ o. other_from (other_prime_seen o)) others)
given_primes_valid [] = tt
given_primes_valid (o ∷ others) = ((tt, (tt, (tt, tt))), given_primes_valid others)

-- What they mean.
given_stated : (others : List OtherPrime)
    → map other_stated (map (λ o. other_from (other_prime_seen o)) others) ≡ map other_prime_seen others
given_stated [] = refl
given_stated (o ∷ others) = ap (λ rest. other_prime_seen o ∷ rest) (given_stated others)

pub given_primes_some : (others : List OtherPrime) → 0 < length others
    → Some (map other_stated (map (λ o. other_from (other_prime_seen o)) others)) ≡ other_primes_seen others
given_primes_some others some = grind (arith, common_steps, given_stated)

-- What the compiler takes for an element that isn't there.
abbrev pub empty_prime : OtherPrime
empty_prime = record {
  prime = record { ref_ptr = (0, 0); now = [] };
  exponent = record { ref_ptr = (0, 0); now = [] };
  coefficient = record { ref_ptr = (0, 0); now = [] };
}

-- The encodings of all, with that of the one in front of place `left` in the middle.
pub around_given : (others : List OtherPrime) (left : ℕ) (d : OtherPrime) → 0 < left → left ≤ length others
    → all_encodings given_encoded others ≡ all_encodings given_encoded (take (left - 1) others)
    ++ (given_encoded (get_or others (left - 1) d) ++ all_encodings given_encoded (drop left others))
around_given others left d some few =
    let next : left - 1 + 1 ≡ left = omega arith in
    encodings_around (λ _. Unit {0}) given_encoded others (left - 1) d (omega arith)
    ∙ ap (λ k. all_encodings given_encoded (take (left - 1) others)
    ++ (given_encoded (get_or others (left - 1) d) ++ all_encodings given_encoded (drop k others))) next
