-- Values inside explicit context-specific tags (X.690 8.14.2), and fields [n] EXPLICIT .. DEFAULT .. of a SEQUENCE
-- (X.690 11.5).
use Rattle.std.specs.Prelude.{ℕ, List, ◌≡◌, ◌⊎◌, ◌≤◌}
use Rattle.der_core.specs.Words.{IsExactly, SplitsInto, IsNext, context_octet, Tlv, tlv}

pub record Numbered (V : Type 0) : Type 0 where
  pub number : ℕ
  pub value : V

-- The same number, with a value that is made of another.
abbrev pub numbered_map : {V W : Type 0} → (V → W) → Numbered V → Numbered W
numbered_map f v = record { number = v.number; value = f v.value }

abbrev pub HasNumbered : {V : Type 0} → (V → Type 0) → Numbered V → Type 0
HasNumbered has v = (v.number ≤ 30) × has v.value

abbrev pub written_numbered : {V : Type 0} → (V → List ℕ) → Numbered V → List ℕ
written_numbered encoding v = tlv (context_octet v.number) (encoding v.value)

-- What reading a field with a default gives: its value, and the bytes after it. The field is left out exactly if its
-- octet isn't next.
abbrev pub FieldRead : {V : Type 0} → ℕ → (V → List ℕ → Type 0) → V → List ℕ → V → List ℕ → Type 0
FieldRead number Grammar default bytes value rest =
    ((IsNext (context_octet number) bytes → ⊥) × (value ≡ default) × (rest ≡ bytes)) ⊎
    SplitsInto (Tlv (context_octet number) (Grammar value)) (IsExactly rest) bytes
