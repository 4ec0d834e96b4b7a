-- Worked rows of `Length.antt` of `der_core`: length octets in the definite form.
use Rattle.std.proofs.Common.{ℕ, List, [], ◌∷◌, ◌≡◌, ◌≤◌, ◌<◌, ◌+◌, arith, length, map, refl}
use Rattle.std.specs.Int.Digits.{number_from_digits}
use Rattle.std.specs.Prelude.{◌↔◌, slice_index}
use Rattle.der_core.specs.Encodings.{AreBytes}
use Rattle.der_core.specs.Length.{IsBase256, IsLength, length_octets, long, short, tlv_len}

base_256 : (n : ℕ) (digits : List ℕ) → IsBase256 n digits
    ↔ (AreBytes digits × (number_from_digits 256 digits ≡ n) × (0 < slice_index digits 0))
base_256 n digits =
    ((λ p. (p.bytes, p.value, p.no_leading_zero)), (λ p. record { bytes = p.0; value = p.1; no_leading_zero = p.2 }))

module _ (n : ℕ) (octets : List ℕ) where
  short_length : n < 128 → octets ≡ n ∷ [] → IsLength n octets
  short_length below is = short below is

  long_length : (digits : List ℕ) → 128 ≤ n → length digits ≤ 126 → IsBase256 n digits
      → octets ≡ (128 + length digits) ∷ digits → IsLength n octets
  long_length digits above counted is same = long digits above counted is same

short_only : (n : ℕ) (octets : List ℕ) → n < 128 → IsLength n octets → octets ≡ n ∷ []
short_only n octets below (short less is) = is
short_only n octets below (long digits above counted is same) = absurd (omega (arith, below, above))

long_only : (n : ℕ) (octets : List ℕ) → 127 < n → IsLength n octets
    → (digits : List ℕ) × IsBase256 n digits × (length digits ≤ 126) × (octets ≡ (128 + length digits) ∷ digits)
long_only n octets above (short less is) = absurd (omega (arith, above, less))
long_only n octets above (long digits same counted is octets_are) = (digits, is, counted, octets_are)

lengths_of_encodings : map tlv_len (0 ∷ 127 ∷ 128 ∷ 256 ∷ []) ≡ 2 ∷ 129 ∷ 131 ∷ 260 ∷ []
unfolding length_octets
lengths_of_encodings = refl
