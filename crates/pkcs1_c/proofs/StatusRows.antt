-- Worked rows of `Status.antt`: the number of each error, and which status a call returns.
use Rattle.std.proofs.Common.{ℕ, [], ◌∷◌, ◌≡◌, ◌<◌, arith, codes, refl, length, map, suc, Result, Ok, Err}
use Rattle.std.specs.Prelude.{◌↔◌}
use Rattle.der_core.specs.declared.error.ErrorKind.{ErrorKind}
use Rattle.der_core.specs.declared.error.ErrorKind.TheVariants.{Failed, File, Incomplete, IndefiniteLength, Length, NoRoom, Noncanonical, OidMalformed, OidUnknown, OutOfMemory, Overflow, Overlength, ParametersMissing, TagUnexpected, TagUnknown, TrailingData, Value}
use Rattle.der_core.specs.Words.{integer_tag, sequence_tag}
use Rattle.pkcs1_params.specs.declared.error.Error.TheVariants as error
use Rattle.pkcs1_c.specs.Status.{IsErrorNumber, IsErrorOf, IsStatusOf, NoStatus, kind_number, status_of, status_text, status_texts}

kind_numbers : map kind_number
    (Failed ∷ Incomplete ∷ IndefiniteLength ∷ Length integer_tag ∷ Noncanonical integer_tag ∷ OidMalformed
    ∷ OidUnknown ∷ Overflow ∷ Overlength ∷ ParametersMissing ∷ TagUnexpected sequence_tag integer_tag ∷ TagUnknown 31
    ∷ TrailingData ∷ Value integer_tag ∷ NoRoom ∷ File ∷ OutOfMemory ∷ [])
    ≡ 1 ∷ 2 ∷ 3 ∷ 4 ∷ 5 ∷ 6 ∷ 7 ∷ 8 ∷ 9 ∷ 10 ∷ 11 ∷ 12 ∷ 13 ∷ 14 ∷ 15 ∷ 16 ∷ 17 ∷ []
kind_numbers = refl

error_statuses : map status_of (error.Crypto ∷ error.KeyMalformed ∷ error.Version ∷ []) ≡ 18 ∷ 19 ∷ 20 ∷ []
error_statuses = refl

-- == Which status ==
abbrev fault_of : ErrorKind → Result ℕ ErrorKind
fault_of kind = Err kind

value_has_status_0 : IsStatusOf {V = ℕ} (Ok 7) 0
value_has_status_0 = (7, refl)

error_is_not_0 : IsStatusOf (fault_of Incomplete) 0 → ⊥
error_is_not_0 p = let same = p.1 in cc

incomplete_has_status_2 : IsStatusOf (fault_of Incomplete) 2
incomplete_has_status_2 = (omega arith, (Incomplete, refl, refl))

another_status : IsErrorNumber (fault_of Incomplete) 3 → ⊥
another_status (kind, is, number) = cc

no_room_is_no_status : IsStatusOf (fault_of NoRoom) 15 → ⊥
no_room_is_no_status p = omega (arith, p.0)

-- == Which error ==
nothing_wrong : NoStatus (λ status. status ≡ 4) → ⊥
nothing_wrong p = p 4 refl

wrong_is_not_0 : IsErrorOf (λ status. status ≡ 4) 0 → ⊥
wrong_is_not_0 p = p 4 refl

not_wrong : IsErrorOf (λ status. status ≡ 4) 5 → ⊥
not_wrong p = omega (arith, p.0)

not_the_only_one : IsErrorOf (λ status. status < 9) 4 → ⊥
not_the_only_one p = omega (arith, p.1 5 (omega arith))

-- == Strings ==
status_texts_counted : length status_texts ≡ 22
status_texts_counted = refl

text_of_incomplete : status_text 2 ≡ codes "the input ends too early: it is empty or cut off, or a field is missing"
text_of_incomplete = refl

text_of_failed : status_text 1 ≡ codes "an earlier read failed"
text_of_failed = refl

text_of_no_room : status_text 15 ≡ codes "there is too little room for the encoding"
text_of_no_room = refl

text_of_other_primes : status_text 21 ≡ codes "the other primes are not as many as the key says"
text_of_other_primes = refl

text_behind : status_text 22 ≡ codes "another error"
text_behind = refl

-- == Of any function and any status, no more and no less ==
module _ (given : Result ℕ ErrorKind) (n : ℕ) (WhyNot : ℕ → Type 0) where
  error_number : IsErrorNumber given n ↔ ((kind : ErrorKind) × (given ≡ Err kind) × (n ≡ kind_number kind))
  error_number = (λ p. p, λ p. p)

  status_given : (IsStatusOf given 0 ↔ ((v : ℕ) × (given ≡ Ok v)))
      × (IsStatusOf given (suc n) ↔ ((suc n < 15) × IsErrorNumber given (suc n)))
  status_given = ((λ p. p, λ p. p), (λ p. p, λ p. p))

  no_status : NoStatus WhyNot ↔ ((status : ℕ) → WhyNot status → ⊥)
  no_status = (λ p. p, λ p. p)

  error_given : (IsErrorOf WhyNot 0 ↔ ((status : ℕ) → WhyNot status → ⊥))
      × (IsErrorOf WhyNot (suc n) ↔ (WhyNot (suc n) × ((other : ℕ) → WhyNot other → other ≡ suc n)))
  error_given = ((λ p. p, λ p. p), (λ p. p, λ p. p))
