-- Worked rows of `Structs.antt`: what is claimed of any struct and of any call that writes, no more and no less.
use Rattle.std.proofs.Common.{ℕ, List, [], ◌∷◌, ◌≡◌, ◌≢◌, ◌<◌, length, map, refl, take, false, Some}
use Rattle.std.specs.Int.Digits.{number_from_digits}
use Rattle.std.specs.List.{AllByRecursion}
use Rattle.std.specs.Prelude.{◌↔◌, if◌then◌else◌, None}
use Rattle.pkcs1.specs.Words.{listed_others, primes_encoded}
use Rattle.pkcs1_c.specs.Structs.{AlgorithmIsTidy, ArePlaced, DecodesPrivateKey, EncodingIfHeld, HasPrivateNumbers, HasPublicNumbers, HaveBytes, HoldsPrivateKey, HoldsPublicKey, InfoHasKey, InfoIsTidy, IsShortestLength, MaskGenIsTidy, OaepIsTidy, PssIsTidy, WritesOrTells, algorithm_seen, mask_gen_seen, number_seen, numbers_of_key, numbers_of_prime, oaep_seen, octets_of_key, octets_of_prime, other_prime_seen}
use Rattle.pkcs1_c.specs.declared.algorithm.Algorithm as algorithms
use Rattle.pkcs1_c.specs.declared.algorithm.MaskGen.{MaskGen}
use Rattle.pkcs1_c.specs.declared.container.PrivateKeyInfo.{PrivateKeyInfo}
use Rattle.pkcs1_c.specs.declared.oaep.OaepParams.{OaepParams}
use Rattle.pkcs1_c.specs.declared.private_key.OtherPrime as prime_structs
use Rattle.pkcs1_c.specs.declared.private_key.PrivateKey as key_structs
use Rattle.pkcs1_c.specs.declared.pss.PssParams.{PssParams}
use Rattle.pkcs1_c.specs.declared.public_key.PublicKey as public_structs
use Rattle.standard.specs.Statement.{Decodes, Encodes, IsShortest, OtherPrime, PrivateKey, PrivateKeyEncoding, PublicKey, octets}

-- == Writing ==
module _ {V : Type 0} (Encoding : V → List ℕ → Type 0) (v : V) where
  length_of_shortest : (n : ℕ) → IsShortestLength Encoding v n
      ↔ ((bytes : List ℕ) × IsShortest Encoding v bytes × (n ≡ length bytes))
  length_of_shortest n = (λ p. p, λ p. p)

  encoding_if_held : (held : Type 0) (bytes : List ℕ) → EncodingIfHeld held Encoding v bytes
      ↔ (held × Encoding v bytes)
  encoding_if_held held bytes = (λ p. p, λ p. p)

  written_or_told : (old new : List ℕ) (old_len new_len status : ℕ)
      → WritesOrTells Encoding v old new old_len new_len status
      ↔ ((status ≡ 0 → Encodes Encoding v old new (Some new_len))
      × (status ≡ 15 → IsShortestLength Encoding v new_len × (length old < new_len))
      × (status ≢ 0 → status ≢ 15 → (bytes : List ℕ) → Encoding v bytes → ⊥)
      × (status ≢ 0 → (new ≡ old) × (status ≢ 15 → new_len ≡ old_len)))
  written_or_told old new old_len new_len status = (
    (λ p. (p.ok, p.no_room, p.rejected, p.unchanged)),
    (λ p. record { ok = p.0; no_room = p.1; rejected = p.2; unchanged = p.3 }),
  )

-- == Keys ==
module _ (key : public_structs.PublicKey) (v : PublicKey) where
  public_numbers : HasPublicNumbers key ↔ ((0 < length key.modulus.now) × (0 < length key.public_exponent.now))
  public_numbers = (λ p. p, λ p. p)

  public_key_held_by : HoldsPublicKey key v
      ↔ ((key.modulus.now ≡ octets v.modulus) × (key.public_exponent.now ≡ octets v.public_exponent))
  public_key_held_by = (λ p. p, λ p. p)

number_of_bytes : (bytes : List ℕ) → number_seen bytes ≡ number_from_digits 256 bytes
number_of_bytes bytes = refl

have_bytes : (numbers : List (List ℕ)) → HaveBytes numbers ↔ AllByRecursion (λ bytes. 0 < length bytes) numbers
have_bytes numbers = (λ p. p, λ p. p)

module _ (other : prime_structs.OtherPrime) (o : OtherPrime) where
  prime_numbers : numbers_of_prime other ≡ other.prime.now ∷ other.exponent.now ∷ other.coefficient.now ∷ []
  prime_numbers = refl

  prime_octets : octets_of_prime o ≡ octets o.prime ∷ octets o.exponent ∷ octets o.coefficient ∷ []
  prime_octets = refl

  prime_seen : other_prime_seen other ≡ record {
    prime = number_from_digits 256 other.prime.now;
    exponent = number_from_digits 256 other.exponent.now;
    coefficient = number_from_digits 256 other.coefficient.now;
  }
  prime_seen = refl

module _ (key : key_structs.PrivateKey) (v : PrivateKey) where
  key_numbers_in_order : numbers_of_key key ≡ key.modulus.now ∷ key.public_exponent.now ∷ key.private_exponent.now
      ∷ key.prime1.now ∷ key.prime2.now ∷ key.exponent1.now ∷ key.exponent2.now ∷ key.coefficient.now ∷ []
  key_numbers_in_order = refl

  key_octets_in_order : octets_of_key v ≡ octets v.modulus ∷ octets v.public_exponent ∷ octets v.private_exponent
      ∷ octets v.prime1 ∷ octets v.prime2 ∷ octets v.exponent1 ∷ octets v.exponent2 ∷ octets v.coefficient ∷ []
  key_octets_in_order = refl

  private_key_held_by : HoldsPrivateKey key v
      ↔ ((numbers_of_key key ≡ octets_of_key v) × (key.other_primes ≡ length (listed_others v.other_primes)))
  private_key_held_by = (λ p. p, λ p. p)

  private_numbers : (others : List prime_structs.OtherPrime) → HasPrivateNumbers key others
      ↔ ((key.other_primes ≡ length others) × HaveBytes (numbers_of_key key)
      × AllByRecursion (λ o. HaveBytes (numbers_of_prime o)) others)
  private_numbers others = (λ p. p, λ p. p)

  private_key_decoded : (bytes list : List ℕ) → DecodesPrivateKey bytes key list
      ↔ ((w : PrivateKey) × Decodes PrivateKeyEncoding bytes (Some w) × HoldsPrivateKey key w
      × (list ≡ primes_encoded (listed_others w.other_primes)))
  private_key_decoded bytes list = (λ p. p, λ p. p)

first_primes_placed : (others : List OtherPrime) (array : List prime_structs.OtherPrime) → ArePlaced others array
    ↔ (take (length array) (map octets_of_prime others) ≡ take (length others) (map numbers_of_prime array))
first_primes_placed others array = (λ p. p, λ p. p)

-- == Containers and parameters ==
module _ (info : PrivateKeyInfo) where
  tidy_info : InfoIsTidy info ↔ (info.has_attributes ≡ false → info.attributes.now ≡ [])
  tidy_info = (λ p. p, λ p. p)

  info_with_key : InfoHasKey info ↔ ((key : PrivateKey) × PrivateKeyEncoding key info.private_key.now)
  info_with_key = (λ p. p, λ p. p)

tidy_algorithm : (a : algorithms.Algorithm) → AlgorithmIsTidy a
    ↔ (a.has_parameters ≡ false → (a.tag ≡ 0) × (a.parameters.now ≡ []))
tidy_algorithm a = (λ p. p, λ p. p)

module _ (m : MaskGen) where
  tidy_mask : MaskGenIsTidy m
      ↔ ((m.has_hash ≡ false → (m.hash.oid.now ≡ []) × (m.hash.has_parameters ≡ false)) × AlgorithmIsTidy m.hash)
  tidy_mask = (λ p. p, λ p. p)

  mask_seen : ((mask_gen_seen m).oid ≡ m.oid.now)
      × ((mask_gen_seen m).parameters ≡ (if m.has_hash then Some (algorithm_seen m.hash) else None))
  mask_seen = (refl, refl)

tidy_pss : (p : PssParams) → PssIsTidy p ↔ (AlgorithmIsTidy p.hash × MaskGenIsTidy p.mask_gen)
tidy_pss p = (λ is. is, λ is. is)

module _ (p : OaepParams) where
  tidy_oaep : OaepIsTidy p ↔ (AlgorithmIsTidy p.hash × MaskGenIsTidy p.mask_gen × AlgorithmIsTidy p.p_source)
  tidy_oaep = (λ is. is, λ is. is)

  oaep_parts_seen : ((oaep_seen p).hash ≡ algorithm_seen p.hash) × ((oaep_seen p).mask_gen ≡ mask_gen_seen p.mask_gen)
      × ((oaep_seen p).p_source ≡ algorithm_seen p.p_source)
  oaep_parts_seen = (refl, refl, refl)
