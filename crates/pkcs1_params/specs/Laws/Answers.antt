-- What is so of the errors of a whole slice, and of calls that return what a function gives.
use Rattle.std.proofs.Common.{ℕ, List, ◌≡◌, ⊎_elim, None, Err, Result, length, nat_lt, Ok, ◌∙◌, ap, refl, subst, ◌↔◌}
use Rattle.der_core.specs.declared.error.ErrorKind.{ErrorKind}
use Rattle.der_core.specs.Words.{cond_cases, alone_law, limit, ReadsFrontPrinted, FrontReading, whole, ok_of, value_in, ◌>>=◌}
use Rattle.pkcs1_params.specs.Errors.{IsAsn1}
use Rattle.pkcs1_params.specs.Meanings.{FaultsTell, AnswersAsn1, IsEncoded, fault_in}
use Rattle.pkcs1_params.specs.declared.error.Error.{Error}
use Rattle.standard.specs.Statement.{Decodes}
use Rattle.der_core.specs.declared.error.Error as der
use Rattle.pkcs1_params.specs.declared.error.Error.TheVariants as error

-- A fault of a whole slice.
pub whole_tells : {S : Type 0} {valid : S → Type 0} {printed : S → List ℕ} {at : FrontReading S}
    → ReadsFrontPrinted valid printed at → FaultsTell (whole at)
whole_tells law bytes k e =
    ⊎_elim (λ w. (λ no. cc, λ no. cc, λ no. cc))
    (λ w. (alone_law law).tells bytes k w.1) (cond_cases (nat_lt limit (length bytes)) _ _ _ e)

-- What follows from a fact on the error of der_core.
pub asn1_as : {P Q : der.Error → Type 0} → ((a : der.Error) → P a → Q a) → (e : Error) → IsAsn1 P e → IsAsn1 Q e
asn1_as f (error.Asn1 a) p = f a p
asn1_as f error.Crypto p = absurd p
asn1_as f error.KeyMalformed p = absurd p
asn1_as f error.Version p = absurd p

-- A value is read, and the rest of the function is asked.
pub answers_asn1_behind : {X A B : Type 0} (value : X → B) (first : Result A ErrorKind)
    (behind : A → Result B ErrorKind)
    (a : A) → first ≡ Ok a → (r : Result X Error) → AnswersAsn1 value (behind a) r
    → AnswersAsn1 value (first >>= behind) r
answers_asn1_behind value first behind a is (Ok x) p = ap (λ r. r >>= behind) is ∙ p
answers_asn1_behind value first behind a is (Err e) p = asn1_as (λ k f. ap (λ r. r >>= behind) is ∙ f) e p

-- A call that returns what a function gives decodes what the function does.
pub answers_asn1_decode : {X V B : Type 0} (E : V → B → Type 0) (bytes : B) (value : X → V) (given : Result V ErrorKind)
    → Decodes E bytes (value_in given) → (r : Result X Error) → AnswersAsn1 value given r
    → Decodes E bytes (ok_of value r)
answers_asn1_decode E bytes value given d (Ok x) p = subst (λ g. Decodes E bytes (value_in g)) p d
answers_asn1_decode E bytes value given d (Err (error.Asn1 e)) p = subst (λ g. Decodes E bytes (value_in g)) p d
answers_asn1_decode E bytes value given d (Err error.Crypto) p = absurd p
answers_asn1_decode E bytes value given d (Err error.KeyMalformed) p = absurd p
answers_asn1_decode E bytes value given d (Err error.Version) p = absurd p

-- There is no fault exactly of bytes that encode a value.
pub fault_in_none : {V : Type 0} (E : V → List ℕ → Type 0) (bytes : List ℕ) (given : Result V ErrorKind)
    → Decodes E bytes (value_in given) → (fault_in given ≡ None) ↔ IsEncoded E bytes
fault_in_none E bytes (Ok v) d = (λ _. (v, d.0), λ _. refl)
fault_in_none E bytes (Err k) d = (λ no. cc, λ p. absurd (d p.0 p.1))
