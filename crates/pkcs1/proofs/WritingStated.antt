-- What is written of a value and why it isn't, in the words of `Statement.antt`; and of a value that another one stands
-- for. For `encode_key` and `to_pkcs1_der`.
use Rattle.std.proofs.Common.{ℕ, List, ◌≡◌, ◌⊎◌, ◌↔◌, inl, inr}
use Rattle.der_core.specs.Words.{EncodeError, no_encoding, too_long, no_room, another, WhyNotCounted, written_prints, Prints, Spells, WritesShortest, IsOutOfMemory, WhyOctetsNotCounted, encode_error}
use Rattle.der_core.specs.declared.error.ErrorKind.{ErrorKind}
use Rattle.pkcs1.specs.Words.{Unmade}

-- What the calls of der_core promise of a type.
module _ {S V : Type 0} {valid : S → Type 0} {printed : S → List ℕ} {means : S → V} {written : V → S}
    (law : WritesShortest valid printed means written) (v : V) where
  abbrev ValuePrints : V → List ℕ → Type 0
  ValuePrints = Prints valid printed means

  abbrev ValueSpells : V → List ℕ → Type 0
  ValueSpells = Spells valid printed means

  abbrev IsWritten : V → Type 0
  IsWritten w = valid (written w)

  -- Memory ran out for a value with an encoding; or its octets aren't counted, and it has none.
  abbrev Unencoded : ErrorKind → EncodeError → Type 0
  Unencoded k c =
      IsOutOfMemory (IsWritten v) (printed (written v)) k
      ⊎ (WhyOctetsNotCounted (IsWritten v) (printed (written v)) c × WhyNotCounted (IsWritten v) ValuePrints v c)

  -- So no document is made of it.
  unencoded_unmade_by : (k : ErrorKind) (c : EncodeError) → encode_error k ≡ c → Unencoded k c
      → Unmade IsWritten ValueSpells v k c
  unencoded_unmade_by k no_encoding told (inl m) = cc
  unencoded_unmade_by k no_encoding told (inr h) = h.0
  unencoded_unmade_by k too_long told (inl m) = cc
  unencoded_unmade_by k too_long told (inr h) = h.1
  unencoded_unmade_by k no_room told (inl m) = cc
  unencoded_unmade_by k no_room told (inr h) = h.0
  unencoded_unmade_by k another told (inl m) = (m.0, printed (written v), (m.2, written_prints law v m.1))
  unencoded_unmade_by k another told (inr h) = absurd h.0

  pub unencoded_unmade : (k : ErrorKind) → Unencoded k (encode_error k)
      → Unmade IsWritten ValueSpells v k (encode_error k)
  unencoded_unmade k h = unencoded_unmade_by k (encode_error k) (λ i. encode_error k) h

-- A value that another stands for: why the one isn't made is why the other isn't.
module _ {V W : Type 0} (Is : V → Type 0) (Encoding : V → List ℕ → Type 0) (Valid : W → Type 0)
    (Other : W → List ℕ → Type 0) (v : V) (w : W) (valid : Is v ↔ Valid w)
    (same : (bytes : List ℕ) → Encoding v bytes ↔ Other w bytes) where
  pub unmade_carried : (k : ErrorKind) (c : EncodeError) → Unmade Is Encoding v k c → Unmade Valid Other w k c
  unmade_carried k no_encoding h = λ ok. h (valid.1 ok)
  unmade_carried k too_long h = (valid.0 h.0, λ bytes p. h.1 bytes ((same bytes).1 p))
  unmade_carried k no_room h = h
  unmade_carried k another h = (h.0, h.1, (same h.1).0 h.2)
