-- Encodings as a whole, within the limit on their length.
use Rattle.std.specs.Prelude.{ℕ, List, ◌<◌, ◌≤◌, length}
use Rattle.der_core.specs.Tag.{sequence_octet}
use Rattle.der_core.specs.Length.{limit}
use Rattle.der_core.specs.Encodings.{AreBytes}
use Rattle.der_core.specs.Tlv.{Tlv}
use Rattle.standard.specs.Statement.{IsShortest}

-- The value has this encoding, which is within the limit.
abbrev pub WithinLimit : {V : Type 0} → (V → List ℕ → Type 0) → V → List ℕ → Type 0
WithinLimit Grammar v encoding = (length encoding ≤ limit) × Grammar v encoding

-- No encoding is one of both grammars.
abbrev pub Excludes : {V W : Type 0} → (V → List ℕ → Type 0) → (W → List ℕ → Type 0) → Type 0
Excludes {V} {W} G H = (v : V) (w : W) (encoding : List ℕ) → G v encoding → H w encoding → ⊥

-- Why a value isn't written.
pub data EncodeError : Type 0 where
  no_encoding : EncodeError
  too_long : EncodeError
  no_room : EncodeError
  another : EncodeError

-- Why the length of a value's encoding isn't counted: the value has none, or it has some (as Has says) and all of them
-- pass the limit.
abbrev pub WhyNotCounted : {V : Type 0} → Type 0 → (V → List ℕ → Type 0) → V → EncodeError → Type 0
WhyNotCounted Has Grammar v no_encoding = (encoding : List ℕ) → Grammar v encoding → ⊥
WhyNotCounted Has Grammar v too_long = Has × ((encoding : List ℕ) → WithinLimit Grammar v encoding → ⊥)
WhyNotCounted Has Grammar v no_room = ⊥
WhyNotCounted Has Grammar v another = ⊥

-- Why a value isn't written: the length isn't counted, or there is no room for the shortest encoding.
abbrev pub WhyNotWritten : {V : Type 0} → Type 0 → (V → List ℕ → Type 0) → V → ℕ → EncodeError → Type 0
WhyNotWritten Has Grammar v room no_encoding = (encoding : List ℕ) → Grammar v encoding → ⊥
WhyNotWritten Has Grammar v room too_long = Has × ((encoding : List ℕ) → WithinLimit Grammar v encoding → ⊥)
WhyNotWritten Has Grammar v room no_room =
    (encoding : List ℕ) × IsShortest (WithinLimit Grammar) v encoding × (room < length encoding)
WhyNotWritten Has Grammar v room another = ⊥

-- One whole SEQUENCE, whatever its contents are.
abbrev pub IsDocument : List ℕ → Type 0
IsDocument encoding = (length encoding ≤ limit) × Tlv sequence_octet AreBytes encoding
