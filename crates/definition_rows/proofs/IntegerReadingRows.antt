-- Worked rows of `IntegerReading.antt` of `der_core`: which contents are those of a number, and why bytes are none.
use Rattle.std.proofs.Common.{ℕ, List, [], ◌∷◌, ◌≡◌, ◌≤◌, ◌<◌, ◌⊎◌, length, map, refl, Ok, Err, Result}
use Rattle.std.specs.Int.Digits.{number_from_digits}
use Rattle.std.specs.Prelude.{◌↔◌}
use Rattle.der_core.specs.Integer.{IsCanonical}
use Rattle.der_core.specs.IntegerReading.{Answers, IsOutOfMemoryForNumber, WhyNoNumber, as_small, integer_of, small_of}
use Rattle.der_core.specs.Tags.{integer_tag}
use Rattle.der_core.specs.declared.error.Error.{Error}
use Rattle.der_core.specs.declared.error.ErrorKind.{ErrorKind}
use Rattle.der_core.specs.declared.error.ErrorKind.TheVariants.{Length, Noncanonical, OutOfMemory, Overflow, Value}

integers_of : map integer_of ((0 ∷ []) ∷ (127 ∷ []) ∷ (0 ∷ 128 ∷ []) ∷ (1 ∷ 0 ∷ []) ∷ [])
    ≡ Ok (0 ∷ []) ∷ Ok (127 ∷ []) ∷ Ok (128 ∷ []) ∷ Ok (1 ∷ 0 ∷ []) ∷ []
integers_of = refl

no_integers : map integer_of ([] ∷ (128 ∷ []) ∷ (0 ∷ 127 ∷ []) ∷ (128 ∷ 0 ∷ []) ∷ [])
    ≡ Err (Length integer_tag) ∷ Err (Value integer_tag) ∷ Err (Noncanonical integer_tag) ∷ Err (Value integer_tag) ∷ []
no_integers = refl

small_numbers : map small_of ((0 ∷ []) ∷ (0 ∷ 255 ∷ []) ∷ (1 ∷ 0 ∷ []) ∷ [])
    ≡ Ok 0 ∷ Ok 255 ∷ Err (Value integer_tag) ∷ []
small_numbers = refl

fault_stays : (e : ErrorKind) → as_small (Err e) ≡ Err e
fault_stays e = refl

module _ (bytes : List ℕ) (e : ErrorKind) where
  why_no_number : WhyNoNumber bytes e ↔ (((length bytes ≡ 0) × (e ≡ Length integer_tag))
      ⊎ (((x : List ℕ) → IsCanonical x → number_from_digits 256 x ≡ number_from_digits 256 bytes
      → 4294967295 < length x) × (e ≡ Overflow)))
  why_no_number = (λ p. p, λ p. p)

  no_memory_for_number : IsOutOfMemoryForNumber bytes e ↔ ((0 < length bytes)
      × ((x : List ℕ) × IsCanonical x × (number_from_digits 256 x ≡ number_from_digits 256 bytes)
      × (length x ≤ 4294967295)) × (e ≡ OutOfMemory))
  no_memory_for_number = (λ p. p, λ p. p)

answered : {X Y : Type 0} (value : X → Y) (x : X) (e : Error) (r : Result Y ErrorKind)
    → (Answers value (Ok x) r ↔ (r ≡ Ok (value x))) × (Answers value (Err e) r ↔ (r ≡ Err e.kind))
answered value x e r = ((λ p. p, λ p. p), (λ p. p, λ p. p))
