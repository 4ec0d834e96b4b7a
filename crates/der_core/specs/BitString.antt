-- BIT STRING of whole octets (X.690 8.6): the number of unused bits of the last octet, which is 0, and then the octets.
use Rattle.std.specs.Prelude.{ℕ, List, [], ◌∷◌, ◌≡◌, ◌==◌, Ok, Err, if◌then◌else◌}
use Rattle.der_core.specs.declared.error.ErrorKind.TheVariants.{Length, Value}
use Rattle.der_core.specs.Readings.{FrontReading, Reading, ◌>>=◌}
use Rattle.der_core.specs.Tags.{bit_string_tag}

-- The contents (8.6.2.1, 8.6.2.2), where these octets are printed.
abbrev pub whole_octets : {S : Type 0} → (S → List ℕ) → S → List ℕ
whole_octets printed s = 0 ∷ printed s

-- The number of unused bits, which has to be there, and 0; or the first fault.
abbrev pub no_unused_bits : FrontReading (Unit {0})
no_unused_bits [] = Err (Length bit_string_tag)
no_unused_bits (unused ∷ octets) = if unused == 0 then Ok (tt, octets) else Err (Value bit_string_tag)

-- What is read of the octets behind it.
abbrev pub behind_zero : {V : Type 0} → Reading V → Reading V
behind_zero read contents = no_unused_bits contents >>= λ p. read p.1

-- The octets behind it may ask for memory.
abbrev pub AllocatesBehindZero : (List ℕ → Type 0) → List ℕ → Type 0
AllocatesBehindZero may_allocate contents = (octets : List ℕ) × (contents ≡ 0 ∷ octets) × may_allocate octets
