-- What a type states of its encodings: a printer of what stands in the bytes, and which of that is valid. The laws of a
-- type say that a function reads what is printed, and nothing else.
--
-- What stands in the bytes is a spelling of a value. Most values have one spelling, which is the value itself. A value
-- whose fields have defaults has several.
use Rattle.std.specs.Prelude.{ℕ, List, ◌≡◌, ◌<◌, ◌≤◌, ◌++◌, ◌∷◌, ◌⊎◌, length, slice_index, nat_lt, if◌then◌else◌, Bool, true, false, Option, Some, None, Result, Ok, Err}
use Rattle.std.specs.Int.Digits.{number_from_digits}
use Rattle.der_core.specs.declared.error.ErrorKind.{ErrorKind}
use Rattle.der_core.specs.Encodings.{AreBytes}
use Rattle.der_core.specs.IntegerReading.{integer_of}
use Rattle.der_core.specs.Length.{limit}
use Rattle.der_core.specs.Reading.{TellsOfBytes}
use Rattle.der_core.specs.Readings.{FrontReading, Reading, front_made, is_next, made}
use Rattle.standard.specs.Statement.{octets}

-- The function reads the contents of valid spellings, and nothing else. Its faults are about the bytes.
pub record ReadsPrinted {S : Type 0} (valid : S → Type 0) (printed : S → List ℕ) (read : Reading S) : Type 0 where
  pub gives : (c : List ℕ) (s : S) → AreBytes c → read c ≡ Ok s → valid s × (c ≡ printed s)
  pub takes : (s : S) → valid s → length (printed s) ≤ limit → read (printed s) ≡ Ok s
  pub tells : (c : List ℕ) (k : ErrorKind) → read c ≡ Err k → TellsOfBytes k

-- The same of encodings at the front of bytes.
pub record ReadsFrontPrinted {S : Type 0} (valid : S → Type 0) (printed : S → List ℕ) (at : FrontReading S)
    : Type 0 where
  pub gives : (i rest : List ℕ) (s : S) → AreBytes i → at i ≡ Ok (s, rest) → valid s × (i ≡ printed s ++ rest)
  pub takes : (s : S) (rest : List ℕ) → valid s → length (printed s ++ rest) ≤ limit
      → at (printed s ++ rest) ≡ Ok (s, rest)
  pub tells : (i : List ℕ) (k : ErrorKind) → at i ≡ Err k → TellsOfBytes k

-- The bytes are a valid spelling of the value.
abbrev pub Prints : {S V : Type 0} → (S → Type 0) → (S → List ℕ) → (S → V) → V → List ℕ → Type 0
Prints {S} valid printed means v bytes = (s : S) × (means s ≡ v) × valid s × (bytes ≡ printed s)

-- They are, and within the limit.
abbrev pub Spells : {S V : Type 0} → (S → Type 0) → (S → List ℕ) → (S → V) → V → List ℕ → Type 0
Spells valid printed means v bytes = (length bytes ≤ limit) × Prints valid printed means v bytes

-- The spelling that is written means the value, is valid if any of the value's is, and is shorter than each other one.
pub record WritesShortest {S V : Type 0} (Is : S → Type 0) (printed : S → List ℕ) (means : S → V) (written : V → S)
    : Type 0 where
  pub back : (v : V) → means (written v) ≡ v
  pub valid : (s : S) → Is s → Is (written (means s))
  pub least : (s : S) → Is s → length (printed s) ≤ limit
      → (s ≡ written (means s)) ⊎ (length (printed (written (means s))) < length (printed s))

-- No encoding within the limit is that of two spellings, or a proper beginning of another.
abbrev pub PrintsOne : {S : Type 0} → (S → Type 0) → (S → List ℕ) → Type 0
PrintsOne {S} valid printed =
    (s t : S) (x y : List ℕ) → valid s → valid t → length (printed s ++ x) ≤ limit → printed s ++ x ≡ printed t ++ y
    → (s ≡ t) × (x ≡ y)

-- Each value has at most one spelling.
abbrev pub AreSpelledOnce : {S V : Type 0} → (S → V) → Type 0
AreSpelledOnce {S} means = (s t : S) → means s ≡ means t → s ≡ t

-- A function reads the values that the spellings mean, and the same faults.
pub record ReadsAlike {S V : Type 0} (spelling : Reading S) (means : S → V) (read : Reading V) : Type 0 where
  pub same : (c : List ℕ) → made means spelling c ≡ read c

pub record ReadsFrontAlike {S V : Type 0} (spelling : FrontReading S) (means : S → V) (at : FrontReading V)
    : Type 0 where
  pub same : (i : List ℕ) → front_made means spelling i ≡ at i

pub true_is_not_false : {X : Type 0} → true ≡ false → X
true_is_not_false e = cc

-- Which octets encodings may begin with: they begin with no other.
pub record Starts {S : Type 0} (printed : S → List ℕ) : Type 0 where
  pub with : ℕ → Bool
  pub only : (s : S) (rest : List ℕ) (t : ℕ) → with t ≡ false → is_next t (printed s ++ rest) ≡ false

-- The same of contents, which may be empty.
pub record Begins {S : Type 0} (printed : S → List ℕ) : Type 0 where
  pub with : ℕ → Bool
  pub only : (s : S) (t : ℕ) → with t ≡ false → is_next t (printed s) ≡ false

abbrev pub starts_with_any : {S : Type 0} (printed : S → List ℕ) → Starts printed
starts_with_any printed = record { with = λ _. true; only = λ s rest t e. true_is_not_false e }

abbrev pub begins_with_any : {S : Type 0} {printed : S → List ℕ} → Begins printed
begins_with_any = record { with = λ _. true; only = λ s t e. true_is_not_false e }

-- What was read, without the kind of a fault.
abbrev pub value_in : {V : Type 0} → Result V ErrorKind → Option V
value_in (Ok v) = Some v
value_in (Err k) = None

-- What a call returned, by what it means; nothing for an error.
abbrev pub ok_of : {X M E : Type 0} → (X → M) → Result X E → Option M
ok_of meaning (Ok x) = Some (meaning x)
ok_of meaning (Err e) = None

-- The contents of an INTEGER, and the number with these contents.
abbrev pub number_contents : ℕ → List ℕ
number_contents n = if nat_lt (slice_index (octets n) 0) 128 then octets n else (0 ∷ octets n)

abbrev pub number_of : Reading ℕ
number_of = made (number_from_digits 256) integer_of

-- A part, and what follows it.
abbrev pub row : {A B : Type 0} → (A → List ℕ) → (B → List ℕ) → A × B → List ℕ
row first rest s = first s.0 ++ rest s.1
