-- Worked rows of `Meanings.antt` of `pkcs1_params`: what calls return, and why.
use Rattle.std.proofs.Common.{ℕ, List, [], ◌∷◌, ◌++◌, ◌≡◌, ◌⊎◌, map, refl, Result, Ok, Err, Some, None}
use Rattle.std.specs.Prelude.{◌↔◌}
use Rattle.der_core.specs.Words.{Reading, TellsOfBytes, Unwritten, encode_error}
use Rattle.der_core.specs.declared.error.Error.{Error}
use Rattle.der_core.specs.declared.error.ErrorKind.{ErrorKind}
use Rattle.der_core.specs.declared.error.ErrorKind.TheVariants.{OutOfMemory}
use Rattle.pkcs1_params.specs.Meanings.{AnswersAsn1, AnswersAsn1OrAsks, AreDelimited, FaultsTell, IsEncoded, Refuses, fault_in, fault_told}
use Rattle.pkcs1_params.specs.declared.error.Error.TheVariants as error

module _ {V : Type 0} (Encoding : V → List ℕ → Type 0) where
  some_value_encoded : (bytes : List ℕ) → IsEncoded Encoding bytes ↔ ((v : V) × Encoding v bytes)
  some_value_encoded bytes = (λ p. p, λ p. p)

  delimited : AreDelimited Encoding ↔ (((v : V) → Encoding v [] → ⊥) × ((v w : V) (bytes rest : List ℕ)
      → Encoding v bytes → Encoding w (bytes ++ rest) → (v ≡ w) × (rest ≡ [])))
  delimited = (λ p. p, λ p. p)

  value_refused : (Is : V → Type 0) (v : V) (room : ℕ) (e : Error)
      → (Refuses Is Encoding v room (error.Asn1 e) ↔ Unwritten Is Encoding v room (encode_error e.kind))
      × (Refuses Is Encoding v room error.Crypto → ⊥)
  value_refused Is v room e = ((λ p. p, λ p. p), (λ p. p))

fault_of_both : (n : ℕ) (k : ErrorKind) → (fault_in (Ok n) ≡ None) × (fault_in {V = ℕ} (Err k) ≡ Some k)
fault_of_both n k = (refl, refl)

faults_told : (e : Error) → map (fault_told {X = ℕ})
    (Ok 7 ∷ Err (error.Asn1 e) ∷ Err error.Crypto ∷ Err error.KeyMalformed ∷ Err error.Version ∷ [])
    ≡ None ∷ Some e.kind ∷ None ∷ None ∷ None ∷ []
faults_told e = refl

module _ {X V : Type 0} (value : X → V) (given : Result V ErrorKind) (x : X) (e : Error) where
  value_answered : (AnswersAsn1 value given (Ok x) ↔ (given ≡ Ok (value x)))
      × (AnswersAsn1 value given (Err (error.Asn1 e)) ↔ (given ≡ Err e.kind))
      × (AnswersAsn1 value given (Err error.Version) → ⊥)
  value_answered = ((λ p. p, λ p. p), (λ p. p, λ p. p), (λ p. p))

  value_or_memory : (asked : Type 0) → (AnswersAsn1OrAsks value given asked (Ok x) ↔ (given ≡ Ok (value x)))
      × (AnswersAsn1OrAsks value given asked (Err (error.Asn1 e))
      ↔ (((e.kind ≡ OutOfMemory) × asked) ⊎ (given ≡ Err e.kind)))
      × (AnswersAsn1OrAsks value given asked (Err error.Version) → ⊥)
  value_or_memory asked = ((λ p. p, λ p. p), (λ p. p, λ p. p), (λ p. p))

faults_of_bytes : (read : Reading ℕ) → FaultsTell read
    ↔ ((bytes : List ℕ) (k : ErrorKind) → read bytes ≡ Err k → TellsOfBytes k)
faults_of_bytes read = (λ p. p, λ p. p)
