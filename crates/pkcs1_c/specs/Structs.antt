-- What the structs for C hold, in the words of `Statement.antt`, and what a call that writes says and leaves.
-- One rule: the function that is named as a struct, in lower case with underscores, and ends with `seen`, gives the value
-- that it holds.
use Rattle.std.specs.Prelude.{ℕ, List, [], ◌∷◌, ◌≡◌, ◌≢◌, ◌<◌, length, take, map, Option, Some, None, false, if◌then◌else◌}
use Rattle.der_core.specs.Words.{number_from_digits}
use Rattle.std.specs.List.{AllByRecursion}
use Rattle.pkcs1.specs.Words.{listed_others, primes_encoded}
use Rattle.pkcs1_c.specs.declared.algorithm.Algorithm as algorithms
use Rattle.pkcs1_c.specs.declared.algorithm.MaskGen.{MaskGen}
use Rattle.pkcs1_c.specs.declared.container.PrivateKeyInfo.{PrivateKeyInfo}
use Rattle.pkcs1_c.specs.declared.oaep.OaepParams.{OaepParams}
use Rattle.pkcs1_c.specs.declared.private_key.OtherPrime as prime_structs
use Rattle.pkcs1_c.specs.declared.private_key.PrivateKey as key_structs
use Rattle.pkcs1_c.specs.declared.pss.PssParams.{PssParams}
use Rattle.pkcs1_c.specs.declared.public_key.PublicKey as public_structs
use Rattle.standard.specs.Statement.{octets, PublicKey, PrivateKey, PrivateKeyEncoding, OtherPrime, TagAndContents, Algorithm, PssParameters, OaepParameters, Container, rsa_encryption, IsShortest, Encodes, Decodes}

-- == Writing ==
-- The length of the value's shortest encoding.
abbrev pub IsShortestLength : {V : Type 0} → (V → List ℕ → Type 0) → V → ℕ → Type 0
IsShortestLength Encoding v n = (bytes : List ℕ) × IsShortest Encoding v bytes × (n ≡ length bytes)

-- A call was to write a value's shortest encoding over a slice, and its length over a number. Status 0: it did, and the
-- rest of the slice is as before. 15, `PKCS1_NO_ROOM`: the encoding is longer than the slice, and the number is its
-- length. Any other status: there is none, and nothing changed. The slice changed only at 0.
pub record WritesOrTells {V : Type 0} (Encoding : V → List ℕ → Type 0) (v : V) (old new : List ℕ)
    (old_len new_len status : ℕ) : Type 0 where
  pub ok : status ≡ 0 → Encodes Encoding v old new (Some new_len)
  pub no_room : status ≡ 15 → IsShortestLength Encoding v new_len × (length old < new_len)
  pub rejected : status ≢ 0 → status ≢ 15 → (bytes : List ℕ) → Encoding v bytes → ⊥
  pub unchanged : status ≢ 0 → (new ≡ old) × (status ≢ 15 → new_len ≡ old_len)

-- A value that can't be held has no encoding.
abbrev pub EncodingIfHeld : {V : Type 0} → Type 0 → (V → List ℕ → Type 0) → V → List ℕ → Type 0
EncodingIfHeld IsHeld Encoding v bytes = IsHeld × Encoding v bytes

-- == Public keys ==
abbrev pub number_seen : List ℕ → ℕ
number_seen bytes = number_from_digits 256 bytes

-- The key with these numbers: zeros in front don't matter.
abbrev pub public_key_seen : public_structs.PublicKey → PublicKey
public_key_seen key =
    record { modulus = number_seen key.modulus.now; public_exponent = number_seen key.public_exponent.now }

-- Each number has a byte.
abbrev pub HasPublicNumbers : public_structs.PublicKey → Type 0
HasPublicNumbers key = (0 < length key.modulus.now) × (0 < length key.public_exponent.now)

-- The struct has the octets of the key.
abbrev pub HoldsPublicKey : public_structs.PublicKey → PublicKey → Type 0
HoldsPublicKey key v = (key.modulus.now ≡ octets v.modulus) × (key.public_exponent.now ≡ octets v.public_exponent)

-- == Parameters ==
-- Tag and contents count only if `has_parameters` is true, the hash of MGF1 only if `has_hash` is.
abbrev pub algorithm_seen : algorithms.Algorithm → Algorithm TagAndContents
algorithm_seen a =
    record {
      oid = a.oid.now;
      parameters = if a.has_parameters then Some
          (record { tag = a.tag; contents = a.parameters.now }) else None;
    }

abbrev pub mask_gen_seen : MaskGen → Algorithm (Algorithm TagAndContents)
mask_gen_seen m = record { oid = m.oid.now; parameters = if m.has_hash then Some (algorithm_seen m.hash) else None }

abbrev pub pss_seen : PssParams → PssParameters
pss_seen p =
    record {
      hash = algorithm_seen p.hash;
      mask_gen = mask_gen_seen p.mask_gen;
      salt_len = p.salt_len;
      trailer_field = p.trailer_field;
    }

abbrev pub oaep_seen : OaepParams → OaepParameters
oaep_seen p =
    record { hash = algorithm_seen p.hash; mask_gen = mask_gen_seen p.mask_gen; p_source = algorithm_seen p.p_source }

-- What a struct that was filled has in fields that count for nothing: if a `has_..` is false, what belongs to it is
-- empty.
abbrev pub AlgorithmIsTidy : algorithms.Algorithm → Type 0
AlgorithmIsTidy a = a.has_parameters ≡ false → (a.tag ≡ 0) × (a.parameters.now ≡ [])

abbrev pub MaskGenIsTidy : MaskGen → Type 0
MaskGenIsTidy m =
    (m.has_hash ≡ false → (m.hash.oid.now ≡ []) × (m.hash.has_parameters ≡ false)) × AlgorithmIsTidy m.hash

abbrev pub PssIsTidy : PssParams → Type 0
PssIsTidy p = AlgorithmIsTidy p.hash × MaskGenIsTidy p.mask_gen

abbrev pub OaepIsTidy : OaepParams → Type 0
OaepIsTidy p = AlgorithmIsTidy p.hash × MaskGenIsTidy p.mask_gen × AlgorithmIsTidy p.p_source

-- == Private keys ==
-- Each number has a byte.
abbrev pub HaveBytes : List (List ℕ) → Type 0
HaveBytes numbers = AllByRecursion (λ bytes. 0 < length bytes) numbers

abbrev pub numbers_of_prime : prime_structs.OtherPrime → List (List ℕ)
numbers_of_prime o = o.prime.now ∷ o.exponent.now ∷ o.coefficient.now ∷ []

abbrev pub numbers_of_key : key_structs.PrivateKey → List (List ℕ)
numbers_of_key key =
    key.modulus.now ∷ key.public_exponent.now ∷ key.private_exponent.now ∷ key.prime1.now ∷ key.prime2.now
    ∷ key.exponent1.now ∷ key.exponent2.now ∷ key.coefficient.now ∷ []

-- The struct tells how many other primes the array has, and each number has a byte.
abbrev pub HasPrivateNumbers : key_structs.PrivateKey → List prime_structs.OtherPrime → Type 0
HasPrivateNumbers key others =
    (key.other_primes ≡ length others) × HaveBytes (numbers_of_key key)
    × AllByRecursion (λ o. HaveBytes (numbers_of_prime o)) others

abbrev pub other_prime_seen : prime_structs.OtherPrime → OtherPrime
other_prime_seen o = record {
  prime = number_seen o.prime.now;
  exponent = number_seen o.exponent.now;
  coefficient = number_seen o.coefficient.now;
}

-- An empty array: there are none.
abbrev pub other_primes_seen : List prime_structs.OtherPrime → Option (List OtherPrime)
other_primes_seen [] = None
other_primes_seen (o ∷ others) = Some (map other_prime_seen (o ∷ others))

-- The key with the numbers of a struct and of an array: zeros in front don't matter.
abbrev pub private_key_seen : key_structs.PrivateKey → List prime_structs.OtherPrime → PrivateKey
private_key_seen key others = record {
  modulus = number_seen key.modulus.now;
  public_exponent = number_seen key.public_exponent.now;
  private_exponent = number_seen key.private_exponent.now;
  prime1 = number_seen key.prime1.now;
  prime2 = number_seen key.prime2.now;
  exponent1 = number_seen key.exponent1.now;
  exponent2 = number_seen key.exponent2.now;
  coefficient = number_seen key.coefficient.now;
  other_primes = other_primes_seen others;
}

abbrev pub octets_of_prime : OtherPrime → List (List ℕ)
octets_of_prime o = octets o.prime ∷ octets o.exponent ∷ octets o.coefficient ∷ []

abbrev pub octets_of_key : PrivateKey → List (List ℕ)
octets_of_key v =
    octets v.modulus ∷ octets v.public_exponent ∷ octets v.private_exponent ∷ octets v.prime1 ∷ octets v.prime2
    ∷ octets v.exponent1 ∷ octets v.exponent2 ∷ octets v.coefficient ∷ []

-- The array has the octets of the first of these primes, as many as fit.
abbrev pub ArePlaced : List OtherPrime → List prime_structs.OtherPrime → Type 0
ArePlaced others array =
    take (length array) (map octets_of_prime others) ≡ take (length others) (map numbers_of_prime array)

-- The struct has the octets of the key and tells how many other primes it has.
abbrev pub HoldsPrivateKey : key_structs.PrivateKey → PrivateKey → Type 0
HoldsPrivateKey key v =
    (numbers_of_key key ≡ octets_of_key v) × (key.other_primes ≡ length (listed_others v.other_primes))

-- The bytes encode one key. The struct has it, and the list has the encodings of its other primes.
abbrev pub DecodesPrivateKey : List ℕ → key_structs.PrivateKey → List ℕ → Type 0
DecodesPrivateKey bytes key list =
    (v : PrivateKey) × Decodes PrivateKeyEncoding bytes (Some v) × HoldsPrivateKey key v
    × (list ≡ primes_encoded (listed_others v.other_primes))

-- == Containers ==
-- The algorithm is always rsaEncryption with NULL. Attributes count only if `has_attributes` is true.
abbrev pub private_key_info_seen : PrivateKeyInfo → Container
private_key_info_seen info = record {
  algorithm = rsa_encryption;
  private_key = info.private_key.now;
  attributes = if info.has_attributes then Some info.attributes.now else None;
}

-- If `has_attributes` is false, `attributes` is empty.
abbrev pub InfoIsTidy : PrivateKeyInfo → Type 0
InfoIsTidy info = info.has_attributes ≡ false → info.attributes.now ≡ []

-- The private key's octets encode a key.
abbrev pub InfoHasKey : PrivateKeyInfo → Type 0
InfoHasKey info = (key : PrivateKey) × PrivateKeyEncoding key info.private_key.now
