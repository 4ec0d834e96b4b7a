-- Worked rows of `Input.antt` of `der_core`: lengths and headers at the front of bytes, and what a reader has left.
use Rattle.std.proofs.Common.{ℕ, List, [], ◌∷◌, ◌≡◌, map, refl, true, false, Result, Ok, Err, Some, None}
use Rattle.std.specs.Prelude.{◌↔◌}
use Rattle.der_core.specs.Input.{Input, ReadsOrFails, end_of, front_of, header_at, inner_of, is_overlong, left_in, length_at, long_length_at, octet_at, read_from, with_tag}
use Rattle.der_core.specs.declared.error.Error.{Error}
use Rattle.der_core.specs.declared.error.ErrorKind.{ErrorKind}
use Rattle.der_core.specs.declared.error.ErrorKind.TheVariants.{Failed, Incomplete, IndefiniteLength, Overflow, Overlength, TagUnknown, TrailingData}

bytes_left : (left_in None ≡ []) × (left_in (Some (1 ∷ [])) ≡ 1 ∷ [])
bytes_left = (refl, refl)

fronts : (front_of 2 (1 ∷ 2 ∷ 3 ∷ []) ≡ Ok (1 ∷ 2 ∷ [], 3 ∷ [])) × (front_of 2 (1 ∷ []) ≡ Err Incomplete)
    × (front_of 1 (1 ∷ []) ≡ Ok (1 ∷ [], []))
fronts = (refl, refl, refl)

inner_inputs : (inner_of 2 (1 ∷ 2 ∷ 3 ∷ []) ≡ Ok (Some (1 ∷ 2 ∷ []), 3 ∷ [])) × (inner_of 2 (1 ∷ []) ≡ Err Incomplete)
    × (inner_of 1 (1 ∷ []) ≡ Ok (Some (1 ∷ []), []))
inner_inputs = (refl, refl, refl)

ends : (end_of [] ≡ Ok (tt, [])) × (end_of (0 ∷ []) ≡ Err TrailingData)
ends = (refl, refl)

octets_at : (octet_at (7 ∷ 8 ∷ []) ≡ Ok (7, 8 ∷ [])) × (octet_at [] ≡ Err Incomplete)
octets_at = (refl, refl)

overlong : map is_overlong ((127 ∷ []) ∷ (128 ∷ []) ∷ (0 ∷ 255 ∷ []) ∷ (1 ∷ 0 ∷ []) ∷ [])
    ≡ true ∷ false ∷ true ∷ false ∷ []
overlong = refl

long_lengths_at : (long_length_at 2 (1 ∷ 2 ∷ 3 ∷ []) ≡ Ok (258, 3 ∷ [])) × (long_length_at 2 (1 ∷ []) ≡ Err Incomplete)
    × (long_length_at 1 (127 ∷ []) ≡ Err Overlength)
    × (long_length_at 4 (255 ∷ 255 ∷ 255 ∷ 255 ∷ []) ≡ Ok (4294967295, []))
    × (long_length_at 5 (1 ∷ 0 ∷ 0 ∷ 0 ∷ 0 ∷ []) ≡ Err Overflow)
long_lengths_at = (refl, refl, refl, refl, refl)

lengths_at : map length_at
    ([] ∷ (127 ∷ 5 ∷ []) ∷ (128 ∷ []) ∷ (129 ∷ 128 ∷ []) ∷ (132 ∷ 1 ∷ 0 ∷ 0 ∷ 0 ∷ []) ∷ (133 ∷ []) ∷ [])
    ≡ Err Incomplete ∷ Ok (127, 5 ∷ []) ∷ Err IndefiniteLength ∷ Ok (128, []) ∷ Ok (16777216, []) ∷ Err Overflow ∷ []
unfolding length_at
lengths_at = refl

headers_at : map header_at ([] ∷ (48 ∷ 2 ∷ 9 ∷ []) ∷ (31 ∷ 0 ∷ []) ∷ (2 ∷ []) ∷ [])
    ≡ Err Incomplete ∷ Ok ((48, 2), 9 ∷ []) ∷ Err (TagUnknown 31) ∷ Err Incomplete ∷ []
unfolding length_at header_at
headers_at = refl

length_with_tag : (t n : ℕ) (rest : List ℕ) (k : ErrorKind) → (with_tag t (Ok (n, rest)) ≡ Ok ((t, n), rest))
    × (with_tag t (Err k) ≡ Err k)
length_with_tag t n rest k = (refl, refl)

module _ {X Y : Type 0} (view : X → Y) (x : X) (e : Error) (before after : Input)
    (read : List ℕ → Result (Y × List ℕ) ErrorKind) where
  read_or_failed : (ReadsOrFails view (Ok x) before after read
      ↔ ((rest : List ℕ) × (read_from before read ≡ Ok (view x, rest)) × (after ≡ Some rest)))
      × (ReadsOrFails view (Err e) before after read ↔ ((read_from before read ≡ Err e.kind) × (after ≡ None)))
  read_or_failed = ((λ p. p, λ p. p), (λ p. p, λ p. p))

  read_from_input : (bytes : List ℕ) → (read_from None read ≡ Err Failed) × (read_from (Some bytes) read ≡ read bytes)
  read_from_input bytes = (refl, refl)
