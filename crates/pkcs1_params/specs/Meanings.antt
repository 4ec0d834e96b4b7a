-- What calls return, and why, as errors of this crate.
use Rattle.std.specs.Prelude.{ℕ, List, [], ◌++◌, ◌≡◌, length, Option, Some, None, Result, Ok, Err}
use Rattle.std.specs.Borrow.{Bor, MutBor, Fml}
use Rattle.der_core.specs.declared.error.ErrorKind.{ErrorKind}
use Rattle.der_core.specs.Words.{FaultOrMemory, SliceRests, TellsOfBytes, Reading, Unwritten, encode_error, ok_of}
use Rattle.pkcs1_params.specs.declared.error.Error.{Error}
use Rattle.pkcs1_params.specs.declared.error.Error.TheVariants as error
use Rattle.pkcs1_params.specs.Errors.{IsAsn1}
use Rattle.standard.specs.Statement.{Encodes}

-- The bytes encode some value.
abbrev pub IsEncoded : {V : Type 0} → (V → List ℕ → Type 0) → List ℕ → Type 0
IsEncoded {V} Encoding bytes = (v : V) × Encoding v bytes

-- No encoding is empty, or a proper beginning of another, and each is that of one value.
abbrev pub AreDelimited : {V : Type 0} → (V → List ℕ → Type 0) → Type 0
AreDelimited {V} Encoding =
    ((v : V) → Encoding v [] → ⊥)
    × ((v w : V) (bytes rest : List ℕ) → Encoding v bytes → Encoding w (bytes ++ rest) → (v ≡ w) × (rest ≡ []))

-- The kind of the first fault, or none.
abbrev pub fault_in : {V : Type 0} → Result V ErrorKind → Option ErrorKind
fault_in (Ok v) = None
fault_in (Err k) = Some k

-- The kind of the error of der_core that a call returned, if it returned one.
abbrev pub fault_told : {X : Type 0} → Result X Error → Option ErrorKind
fault_told (Ok x) = None
fault_told (Err (error.Asn1 e)) = Some e.kind
fault_told (Err error.Crypto) = None
fault_told (Err error.KeyMalformed) = None
fault_told (Err error.Version) = None

-- The call returned what the function gives. An error of this crate holds one of der_core.
abbrev pub AnswersAsn1 : {X V : Type 0} → (X → V) → Result V ErrorKind → Result X Error → Type 0
AnswersAsn1 value given (Ok x) = given ≡ Ok (value x)
AnswersAsn1 value given (Err e) = IsAsn1 (λ asn1. given ≡ Err asn1.kind) e

-- The same of a call that may ask for memory.
abbrev pub AnswersAsn1OrAsks : {X V : Type 0} → (X → V) → Result V ErrorKind → Type 0 → Result X Error → Type 0
AnswersAsn1OrAsks value given asked (Ok x) = given ≡ Ok (value x)
AnswersAsn1OrAsks value given asked (Err e) = IsAsn1 (λ asn1. FaultOrMemory asn1.kind asked (given ≡ Err asn1.kind)) e

-- Each fault that the function gives is about the bytes.
abbrev pub FaultsTell : {V : Type 0} → Reading V → Type 0
FaultsTell read = (bytes : List ℕ) (kind : ErrorKind) → read bytes ≡ Err kind → TellsOfBytes kind

-- Why a value isn't written to so many bytes. The kinds are Value, Overflow and NoRoom.
abbrev pub Refuses : {V : Type 0} → (V → Type 0) → (V → List ℕ → Type 0) → V → ℕ → Error → Type 0
Refuses Is Encoding v room = IsAsn1 (λ e. Unwritten Is Encoding v room (encode_error e.kind))

-- What a slice holds once the borrow of the result is over: the front that was returned is the value's shortest
-- encoding, and the other octets are as before; after an error all are.
abbrev pub LeavesEncoded : {V : Type 0} → (V → List ℕ → Type 0) → V → MutBor (List ℕ) → Result (Bor (List ℕ)) Error
    → Fml
LeavesEncoded Encoding v s r =
    SliceRests s (λ end. Encodes Encoding v s.now end (ok_of (λ front. length front.now) r))
