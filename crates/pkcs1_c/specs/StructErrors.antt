-- Why a C struct isn't written, by status: the first of its parts that can't be held, in the order of the struct; else
-- why the value that it means isn't written.
use Rattle.std.specs.Prelude.{ℕ, List, [], ◌∷◌, ◌++◌, ◌≡◌, ◌≢◌, ◌<◌, ◌⊎◌, IsTrue, length, false, Option, Some, None}
use Rattle.der_core.specs.Words.{limit, is_allowed}
use Rattle.pkcs1.specs.Words.{rsa_private_key}
use Rattle.standard.specs.Statement.{Algorithm, ContainerEncoding, IsIdentifier, OaepParameters, PrivateKeyEncoding, PssParameters, PublicKeyEncoding, TagAndContents, octets}
use Rattle.pkcs1_c.specs.declared.container.PrivateKeyInfo.{PrivateKeyInfo}
use Rattle.pkcs1_c.specs.declared.public_key.PublicKey.{PublicKey}
use Rattle.pkcs1_c.specs.declared.private_key.PrivateKey.{PrivateKey}
use Rattle.pkcs1_c.specs.declared.private_key.OtherPrime.{OtherPrime}
use Rattle.pkcs1_c.specs.Status.{IsErrorNumber, NoStatus}
use Rattle.pkcs1_c.specs.Structs.{InfoHasKey, IsShortestLength, number_seen, numbers_of_key, numbers_of_prime, private_key_info_seen, private_key_seen, public_key_seen}

-- The statuses of structs that aren't written, by the names that `src/status.rt` gives to numbers.
abbrev pub LENGTH : ℕ
LENGTH = 4

abbrev pub OID_MALFORMED : ℕ
OID_MALFORMED = 6

abbrev pub OVERFLOW : ℕ
OVERFLOW = 8

abbrev pub TAG_UNKNOWN : ℕ
TAG_UNKNOWN = 12

abbrev pub VALUE : ℕ
VALUE = 14

abbrev pub NO_ROOM : ℕ
NO_ROOM = 15

abbrev pub OTHER_PRIMES : ℕ
OTHER_PRIMES = 21

-- All parts can be held: the value has no encoding, or its shortest one is longer than the room.
abbrev pub UnwrittenStatus : {V : Type 0} → (V → List ℕ → Type 0) → V → ℕ → ℕ → Type 0
UnwrittenStatus Encoding v room status =
    ((status ≡ OVERFLOW) × ((bytes : List ℕ) → Encoding v bytes → ⊥))
    ⊎ ((status ≡ NO_ROOM) × (n : ℕ) × IsShortestLength Encoding v n × (room < n))

-- A part can't be held; or it can, and what follows it can't be, or isn't written.
abbrev pub PartThen : (ℕ → Type 0) → (ℕ → Type 0) → ℕ → Type 0
PartThen WhyNot Rest status = WhyNot status ⊎ (NoStatus WhyNot × Rest status)

-- Bytes that aren't accepted as a number: there are none, or the number is longer than the limit.
abbrev pub NumberError : List ℕ → ℕ → Type 0
NumberError bytes status =
    ((status ≡ LENGTH) × (length bytes ≡ 0))
    ⊎ ((status ≡ OVERFLOW) × (0 < length bytes) × (limit < length (octets (number_seen bytes))))

-- One of the numbers, in order, can't be held.
abbrev pub NumbersError : List (List ℕ) → ℕ → Type 0
NumbersError [] status = ⊥
NumbersError (bytes ∷ more) status = PartThen (NumberError bytes) (NumbersError more) status

-- The numbers of a public key.
abbrev pub two_numbers : PublicKey → List (List ℕ)
two_numbers key = key.modulus.now ∷ key.public_exponent.now ∷ []

abbrev pub PublicKeyError : PublicKey → ℕ → ℕ → Type 0
PublicKeyError key room =
    PartThen (NumbersError (two_numbers key)) (UnwrittenStatus PublicKeyEncoding (public_key_seen key) room)

abbrev pub numbers_of_primes : List OtherPrime → List (List ℕ)
numbers_of_primes [] = []
numbers_of_primes (other ∷ others) = numbers_of_prime other ++ numbers_of_primes others

-- The eight numbers of a private key, and those of its other primes.
abbrev pub given_numbers : PrivateKey → List OtherPrime → List (List ℕ)
given_numbers key others = numbers_of_key key ++ numbers_of_primes others

-- There aren't as many other primes as the key says.
abbrev pub Miscounted : PrivateKey → List OtherPrime → ℕ → Type 0
Miscounted key others status = (status ≡ OTHER_PRIMES) × (key.other_primes ≢ length others)

-- That is so; or one of the numbers can't be held; or the key isn't written.
abbrev pub PrivateKeyError : PrivateKey → List OtherPrime → ℕ → ℕ → Type 0
PrivateKeyError key others room =
    PartThen (Miscounted key others)
    (PartThen (NumbersError (given_numbers key others))
    (UnwrittenStatus PrivateKeyEncoding (private_key_seen key others) room))

-- The octets don't encode a private key (the status is that of their first fault); or the container isn't written.
abbrev pub InfoError : PrivateKeyInfo → ℕ → ℕ → Type 0
InfoError info room status =
    IsErrorNumber (rsa_private_key info.private_key.now) status
    ⊎ (InfoHasKey info × UnwrittenStatus ContainerEncoding (private_key_info_seen info) room status)

-- Octets that are no object identifier.
abbrev pub OidError : List ℕ → ℕ → Type 0
OidError oid status = (status ≡ OID_MALFORMED) × (IsIdentifier oid → ⊥)

-- Parameters that can't be held: the tag octet isn't allowed, or the contents are longer than the limit.
abbrev pub AnyError : TagAndContents → ℕ → Type 0
AnyError v status =
    ((status ≡ TAG_UNKNOWN) × (is_allowed v.tag ≡ false))
    ⊎ ((status ≡ OVERFLOW) × IsTrue (is_allowed v.tag) × (limit < length v.contents))

abbrev pub OptionError : {P : Type 0} → (P → ℕ → Type 0) → Option P → ℕ → Type 0
OptionError WhyNot None status = ⊥
OptionError WhyNot (Some v) status = WhyNot v status

abbrev pub AlgorithmError : {P : Type 0} → (P → ℕ → Type 0) → Algorithm P → ℕ → Type 0
AlgorithmError WhyNot a = PartThen (OidError a.oid) (OptionError WhyNot a.parameters)

abbrev pub PlainError : Algorithm TagAndContents → ℕ → Type 0
PlainError = AlgorithmError AnyError

abbrev pub MaskError : Algorithm (Algorithm TagAndContents) → ℕ → Type 0
MaskError = AlgorithmError PlainError

-- One of the fields that both types of parameters begin with can't be held, or what follows them.
abbrev pub HashFieldsThen : Algorithm TagAndContents → Algorithm (Algorithm TagAndContents) → (ℕ → Type 0) → ℕ → Type 0
HashFieldsThen hash mask_gen Rest = PartThen (PlainError hash) (PartThen (MaskError mask_gen) Rest)

abbrev pub PssFieldError : PssParameters → ℕ → Type 0
PssFieldError p = HashFieldsThen p.hash p.mask_gen (λ status. (status ≡ VALUE) × (p.trailer_field ≢ 1))

abbrev pub OaepFieldError : OaepParameters → ℕ → Type 0
OaepFieldError p = HashFieldsThen p.hash p.mask_gen (PlainError p.p_source)

-- One of the fields can't be held; or parameters with these fields aren't written, by their own encoding or by that of
-- the algorithm identifier that they stand in.
abbrev pub FieldsError : {V : Type 0} → (V → ℕ → Type 0) → (V → List ℕ → Type 0) → V → ℕ → ℕ → Type 0
FieldsError FieldError Encoding v room = PartThen (FieldError v) (UnwrittenStatus Encoding v room)
