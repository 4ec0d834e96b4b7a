-- Worked rows of `Writing.antt` of `der_core`: what calls that count and write promise, each of any value.
use Rattle.std.proofs.Common.{ℕ, List, [], ◌∷◌, ◌++◌, ◌≡◌, ◌≤◌, ◌<◌, length, map, refl, Option, Result, Ok, Err, Some, None}
use Rattle.std.specs.Prelude.{◌↔◌}
use Rattle.der_core.specs.Document.{EncodeError, WhyNotCounted, WhyNotWritten, no_encoding, too_long, no_room, another}
use Rattle.der_core.specs.Writing.{Appends, Checks, Counts, IsOutOfMemory, RefusedAs, Unwritten, WhyNotAppended, WhyNotChecked, WhyOctetsNotCounted, WhyOctetsNotWritten, encode_error}
use Rattle.der_core.specs.Writers.{TakesRoom}
use Rattle.der_core.specs.declared.error.Error.{Error}
use Rattle.der_core.specs.declared.error.ErrorKind.{ErrorKind}
use Rattle.der_core.specs.declared.error.ErrorKind.TheVariants.{Failed, File, Incomplete, IndefiniteLength, Length, NoRoom, Noncanonical, OidMalformed, OidUnknown, OutOfMemory, Overflow, Overlength, ParametersMissing, TagUnexpected, TagUnknown, TrailingData, Value}
use Rattle.der_core.specs.declared.tag.Tag.{Tag}
use Rattle.der_core.specs.Tags.{integer_tag, sequence_tag}
use Rattle.standard.specs.Statement.{IsShortest}

errors_of_writing : map encode_error (Value integer_tag ∷ Overflow ∷ NoRoom ∷ [])
    ≡ no_encoding ∷ too_long ∷ no_room ∷ []
errors_of_writing = refl

other_errors : map encode_error
    (Failed ∷ Incomplete ∷ IndefiniteLength ∷ Length integer_tag ∷ Noncanonical integer_tag ∷ OidMalformed ∷ OidUnknown
    ∷ Overlength ∷ ParametersMissing ∷ TagUnexpected sequence_tag integer_tag ∷ TagUnknown 31 ∷ TrailingData ∷ File
    ∷ OutOfMemory ∷ [])
    ≡ another ∷ another ∷ another ∷ another ∷ another ∷ another ∷ another ∷ another ∷ another ∷ another ∷ another
    ∷ another ∷ another ∷ another ∷ []
other_errors = refl

module _ {V : Type 0} (Is : V → Type 0) (Encoding : V → List ℕ → Type 0) (v : V) (room : ℕ) where
  invalid_value : Unwritten Is Encoding v room no_encoding ↔ (Is v → ⊥)
  invalid_value = (λ p. p, λ p. p)

  value_past_limit : Unwritten Is Encoding v room too_long ↔ (Is v × ((bytes : List ℕ) → Encoding v bytes → ⊥))
  value_past_limit = (λ p. p, λ p. p)

  value_without_room : Unwritten Is Encoding v room no_room
      ↔ ((bytes : List ℕ) × IsShortest Encoding v bytes × (room < length bytes))
  value_without_room = (λ p. p, λ p. p)

  never_unwritten : Unwritten Is Encoding v room another → ⊥
  never_unwritten p = p

  why_not_appended : (has : Type 0) (k : EncodeError)
      → (WhyNotAppended has Encoding v None k ↔ WhyNotCounted has Encoding v k)
      × (WhyNotAppended has Encoding v (Some room) k ↔ WhyNotWritten has Encoding v room k)
  why_not_appended has k = ((λ p. p, λ p. p), (λ p. p, λ p. p))

module _ (has : Type 0) (octets : List ℕ) where
  octets_not_counted : (WhyOctetsNotCounted has octets no_encoding ↔ (has → ⊥))
      × ((WhyOctetsNotCounted has octets too_long ↔ (has × (4294967295 < length octets)))
      × ((WhyOctetsNotCounted has octets no_room → ⊥) × (WhyOctetsNotCounted has octets another → ⊥)))
  octets_not_counted = ((λ p. p, λ p. p), ((λ p. p, λ p. p), (λ p. p, λ p. p)))

  octets_counted : (n : ℕ) → Counts has octets (Ok n) ↔ (has × (n ≡ length octets) × (n ≤ 4294967295))
  octets_counted n = (λ p. p, λ p. p)

  count_refused : (e : Error) → Counts has octets (Err e) ↔ WhyOctetsNotCounted has octets (encode_error e.kind)
  count_refused e = (λ p. p, λ p. p)

  memory_ran_out : (e : ErrorKind) → IsOutOfMemory has octets e
      ↔ ((e ≡ OutOfMemory) × has × (length octets ≤ 4294967295))
  memory_ran_out e = (λ p. p, λ p. p)

  octets_checked : (n : ℕ) (e : Error) → (Checks has (Ok n) ↔ has)
      × (Checks {A = ℕ} has (Err e) ↔ WhyNotChecked has (encode_error e.kind))
  octets_checked n e = ((λ p. p, λ p. p), (λ p. p, λ p. p))

  why_not_checked : (WhyNotChecked has no_encoding ↔ (has → ⊥)) × ((WhyNotChecked has too_long → ⊥)
      × ((WhyNotChecked has no_room → ⊥) × (WhyNotChecked has another → ⊥)))
  why_not_checked = ((λ p. p, λ p. p), ((λ p. p), (λ p. p, λ p. p)))

  module _ (room : ℕ) (old new : List ℕ → Type 0) where
    octets_not_written : (WhyOctetsNotWritten has octets (Some room) old new no_encoding
        ↔ ((has → ⊥) × ((before : List ℕ) → old before → new before)))
        × ((WhyOctetsNotWritten has octets (Some room) old new too_long
        ↔ (has × (4294967295 < length octets) × ((before : List ℕ) → old before → new before)))
        × (WhyOctetsNotWritten has octets (Some room) old new another → ⊥))
    octets_not_written = ((λ p. p, λ p. p), ((λ p. p, λ p. p), (λ p. p)))

    octets_without_room : WhyOctetsNotWritten has octets (Some room) old new no_room
        ↔ (has × (length octets ≤ 4294967295) × (room < length octets) × ((front back : List ℕ)
        × (front ++ back ≡ octets) × ((before : List ℕ) → old before → new (before ++ front))))
    octets_without_room = (λ p. p, λ p. p)

  module _ {W : Type 0} (Room : W → Option ℕ) (Written : W → List ℕ → Type 0) (old new : W) where
    octets_appended : (n : ℕ) → Appends has octets Room Written old new (Ok n) ↔ ((has × (length octets ≤ 4294967295))
        × ((before : List ℕ) → Written old before → Written new (before ++ octets))
        × TakesRoom (length octets) (Room old) (Room new))
    octets_appended n = (
      (λ p. (p.has, p.written, p.room)),
      (λ p. record { has = p.0; written = p.1; room = p.2; left = tt }),
    )

    octets_not_appended : (e : Error) → Appends {A = ℕ} has octets Room Written old new (Err e)
        ↔ WhyOctetsNotWritten has octets (Room old) (Written old) (Written new) (encode_error e.kind)
    octets_not_appended e = ((λ p. p.left), (λ p. record { has = tt; written = tt; room = tt; left = p }))

refused_as : (Tags : Tag → Type 0) (r : Result ℕ Error) → RefusedAs Tags r
    ↔ ((tag : Tag) → r ≡ Err (record { kind = Value tag }) → Tags tag)
refused_as Tags r = (λ p. p, λ p. p)
