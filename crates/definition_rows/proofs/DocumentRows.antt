-- Worked rows of `Document.antt` of `der_core`: why values aren't counted or written, and which bytes are a document.
use Rattle.std.proofs.Common.{ℕ, List, ◌≤◌, ◌<◌, length}
use Rattle.std.specs.Prelude.{◌↔◌}
use Rattle.der_core.specs.Document.{Excludes, IsDocument, WhyNotCounted, WhyNotWritten, WithinLimit, another, no_encoding, no_room, too_long}
use Rattle.der_core.specs.Encodings.{AreBytes}
use Rattle.der_core.specs.Tlv.{Tlv}
use Rattle.standard.specs.Statement.{IsShortest}

module _ {V : Type 0} (Has : Type 0) (Encoding : V → List ℕ → Type 0) (v : V) (room : ℕ) where
  within_limit : (bytes : List ℕ) → WithinLimit Encoding v bytes ↔ ((length bytes ≤ 4294967295) × Encoding v bytes)
  within_limit bytes = (λ p. p, λ p. p)

  not_counted : (WhyNotCounted Has Encoding v no_encoding ↔ ((bytes : List ℕ) → Encoding v bytes → ⊥))
      × (WhyNotCounted Has Encoding v too_long
      ↔ (Has × ((bytes : List ℕ) → (length bytes ≤ 4294967295) × Encoding v bytes → ⊥)))
      × (WhyNotCounted Has Encoding v no_room → ⊥) × (WhyNotCounted Has Encoding v another → ⊥)
  not_counted = ((λ p. p, λ p. p), (λ p. p, λ p. p), (λ p. p), (λ p. p))

  not_written : (WhyNotWritten Has Encoding v room no_encoding ↔ ((bytes : List ℕ) → Encoding v bytes → ⊥))
      × (WhyNotWritten Has Encoding v room too_long
      ↔ (Has × ((bytes : List ℕ) → (length bytes ≤ 4294967295) × Encoding v bytes → ⊥)))
      × (WhyNotWritten Has Encoding v room no_room
      ↔ ((bytes : List ℕ) × IsShortest (λ w b. (length b ≤ 4294967295) × Encoding w b) v bytes × (room < length bytes)))
      × (WhyNotWritten Has Encoding v room another → ⊥)
  not_written = ((λ p. p, λ p. p), (λ p. p, λ p. p), (λ p. p, λ p. p), (λ p. p))

  module _ {W : Type 0} (Other : W → List ℕ → Type 0) where
    excluded : Excludes Encoding Other
        ↔ ((a : V) (b : W) (bytes : List ℕ) → Encoding a bytes → Other b bytes → ⊥)
    excluded = (λ p. p, λ p. p)

is_document : (bytes : List ℕ) → IsDocument bytes ↔ ((length bytes ≤ 4294967295) × Tlv 48 AreBytes bytes)
is_document bytes = (λ p. p, λ p. p)
