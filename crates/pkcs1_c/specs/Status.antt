-- The number of each error, the string that describes it, and which number a call returns.
use Rattle.std.specs.Prelude.{ℕ, zero, suc, List, [], ◌∷◌, ◌≡◌, ◌<◌, codes, get_or, Result, Ok, Err}
use Rattle.der_core.specs.declared.error.ErrorKind.{ErrorKind}
use Rattle.der_core.specs.declared.error.ErrorKind.TheVariants as kind
use Rattle.pkcs1_params.specs.declared.error.Error.{Error}
use Rattle.pkcs1_params.specs.declared.error.Error.TheVariants as error

abbrev pub kind_number : ErrorKind → ℕ
kind_number kind.Failed = 1
kind_number kind.Incomplete = 2
kind_number kind.IndefiniteLength = 3
kind_number (kind.Length tag) = 4
kind_number (kind.Noncanonical tag) = 5
kind_number kind.OidMalformed = 6
kind_number kind.OidUnknown = 7
kind_number kind.Overflow = 8
kind_number kind.Overlength = 9
kind_number kind.ParametersMissing = 10
kind_number (kind.TagUnexpected expected actual) = 11
kind_number (kind.TagUnknown octet) = 12
kind_number kind.TrailingData = 13
kind_number (kind.Value tag) = 14
kind_number kind.NoRoom = 15
kind_number kind.File = 16
kind_number kind.OutOfMemory = 17

abbrev pub status_of : Error → ℕ
status_of (error.Asn1 e) = kind_number e.kind
status_of error.Crypto = 18
status_of error.KeyMalformed = 19
status_of error.Version = 20

-- The function gives an error, and the number is that of its kind.
abbrev pub IsErrorNumber : {V : Type 0} → Result V ErrorKind → ℕ → Type 0
IsErrorNumber given number = (kind : ErrorKind) × (given ≡ Err kind) × (number ≡ kind_number kind)

-- The number is 0, and the function gives a value; or it is that of its error, below the number of lack of room.
abbrev pub IsStatusOf : {V : Type 0} → Result V ErrorKind → ℕ → Type 0
IsStatusOf {V} given zero = (v : V) × (given ≡ Ok v)
IsStatusOf given (suc n) = (suc n < 15) × IsErrorNumber given (suc n)

-- There is no status of which it holds.
abbrev pub NoStatus : (ℕ → Type 0) → Type 0
NoStatus WhyNot = (status : ℕ) → WhyNot status → ⊥

-- The status is 0, and nothing is wrong; or it is the only one of which `WhyNot` holds.
abbrev pub IsErrorOf : (ℕ → Type 0) → ℕ → Type 0
IsErrorOf WhyNot zero = NoStatus WhyNot
IsErrorOf WhyNot (suc n) = WhyNot (suc n) × ((other : ℕ) → WhyNot other → other ≡ suc n)

-- The strings, by number.
abbrev pub status_texts : List (List ℕ)
status_texts =
    codes "no error"
    ∷ codes "an earlier read failed"
    ∷ codes "the input ends too early: it is empty or cut off, or a field is missing"
    ∷ codes "the length is indefinite: this is BER, not DER"
    ∷ codes "the contents have a wrong length: a number has no octets"
    ∷ codes "the contents are not in shortest form: needless zeros in front, or (strict) a default written out"
    ∷ codes "the object identifier is malformed: empty, cut off, not in shortest form, or over 39 octets"
    ∷ codes "the object identifier is another one: another algorithm, or PKCS #8 with no RSA key or an RSA-PSS key"
    ∷ codes "a length passes the limit of 4294967295 octets, or stands in more than four octets"
    ∷ codes "the length is not in shortest form: this is not DER"
    ∷ codes "the algorithm parameters are missing: rsaEncryption needs NULL, RSASSA-PSS and RSAES-OAEP a SEQUENCE"
    ∷ codes "another tag was expected: the input may be PEM, PKCS #1, PKCS #8, SubjectPublicKeyInfo or an encrypted key"
    ∷ codes "the tag octet is not known: this is not DER of a key or of parameters"
    ∷ codes "bytes follow the value, or a field that it does not have: a private key read as a public one, perhaps"
    ∷ codes "the value is not allowed: negative, salt over 255, another version, trailer or NULL; a public key, perhaps"
    ∷ codes "there is too little room for the encoding"
    ∷ codes "a read or a write failed"
    ∷ codes "no memory was found"
    ∷ codes "another error"
    ∷ codes "another error"
    ∷ codes "another error"
    ∷ codes "the other primes are not as many as the key says"
    ∷ []

abbrev pub status_text : ℕ → List ℕ
status_text status = get_or status_texts status (codes "another error")
