-- Worked rows of `Reading.antt` of `der_core`: what calls that read promise, each of any value and of any bytes.
use Rattle.std.proofs.Common.{ℕ, List, [], ◌++◌, ◌≡◌, ◌≢◌, ◌≤◌, ◌<◌, ◌⊎◌, length, Bool, Result, Ok, Err, Some, None}
use Rattle.std.specs.Prelude.{◌↔◌, Decides, slice_get}
use Rattle.der_core.specs.Input.{Input}
use Rattle.der_core.specs.Reading.{AllocatesAtFront, AllocatesBehind, AllocatesForItems, AllocatesLast, BeginsWithEncoding, DecodesOrMemory, FaultOrMemory, HoldsBytes, InputAllocates, NoEncodingAtFront, NoValueOrMemory, ReadsAll, ReadsEncoding, ReadsFront, ReadsWhole, Returns, TellsNext, TellsOfBytes}
use Rattle.der_core.specs.declared.error.Error.{Error}
use Rattle.der_core.specs.declared.error.ErrorKind.{ErrorKind}
use Rattle.der_core.specs.declared.error.ErrorKind.TheVariants.{Failed, File, NoRoom, OutOfMemory}
use Rattle.standard.specs.Statement.{Decodes, limit}

-- == Errors ==
error_of_bytes : (e : ErrorKind) → TellsOfBytes e ↔ ((e ≢ OutOfMemory) × (e ≢ File) × (e ≢ NoRoom))
error_of_bytes e = (λ p. p, λ p. p)

module _ (e : ErrorKind) (asked wrong : Type 0) where
  no_value_or_memory : NoValueOrMemory e asked wrong ↔ (((e ≡ OutOfMemory) × asked) ⊎ (TellsOfBytes e × wrong))
  no_value_or_memory = (λ p. p, λ p. p)

  fault_or_memory : FaultOrMemory e asked wrong ↔ (((e ≡ OutOfMemory) × asked) ⊎ wrong)
  fault_or_memory = (λ p. p, λ p. p)

-- == What is left ==
bytes_held : (bytes : List ℕ) (n : ℕ) → (HoldsBytes (Some bytes) n ↔ (length bytes ≡ n)) × (HoldsBytes None n → ⊥)
bytes_held bytes n = ((λ p. p, λ p. p), λ p. p)

module _ {V : Type 0} (Encoding : V → List ℕ → Type 0) (asks : List ℕ → Type 0) (bytes : List ℕ) where
  some_front_asks : AllocatesAtFront asks bytes ↔ ((front rest : List ℕ) × (bytes ≡ front ++ rest) × asks front)
  some_front_asks = (λ p. p, λ p. p)

  last_asks : AllocatesLast asks bytes
      ↔ ((0 < length bytes) × ((front rest : List ℕ) × (bytes ≡ front ++ rest) × asks front))
  last_asks = (λ p. p, λ p. p)

  input_asks : (InputAllocates asks (Some bytes) ↔ asks bytes) × (InputAllocates asks None → ⊥)
  input_asks = ((λ p. p, λ p. p), λ p. p)

  none_at_front : NoEncodingAtFront Encoding bytes
      ↔ ((v : V) (front rest : List ℕ) → bytes ≡ front ++ rest → Encoding v front → ⊥)
  none_at_front = (λ p. p, λ p. p)

  some_at_front : BeginsWithEncoding Encoding bytes
      ↔ ((front rest : List ℕ) × (bytes ≡ front ++ rest) × ((v : V) × Encoding v front))
  some_at_front = (λ p. p, λ p. p)

  items_ask : AllocatesForItems Encoding asks bytes ↔ (((front rest : List ℕ) × (bytes ≡ front ++ rest)
      × ((v : V) × Encoding v front)) ⊎ ((front rest : List ℕ) × (bytes ≡ front ++ rest) × asks front))
  items_ask = (λ p. p, λ p. p)

  next_asks : AllocatesBehind Encoding asks bytes ↔ ((v : V) × ((front rest : List ℕ) × Encoding v front × asks rest
      × (bytes ≡ front ++ rest)))
  next_asks = (λ p. p, λ p. p)

-- == Calls on a reader: what they return, and what they leave ==
module _ {X V : Type 0} (value : X → V) (x : X) (e : Error) (asks : List ℕ → Type 0) (bytes : List ℕ) (after : Input)
  where
    whole_read : (read : List ℕ → Result V ErrorKind) → ReadsWhole value read asks (Ok x) (Some bytes) after
        ↔ ((read bytes ≡ Ok (value x)) × (after ≡ Some []))
    whole_read read = (λ p. p, λ p. p)

    whole_not_read : (read : List ℕ → Result V ErrorKind) → ReadsWhole value read asks (Err e) (Some bytes) after
        ↔ ((after ≡ None) × (((e.kind ≡ OutOfMemory) × asks bytes) ⊎ (read bytes ≡ Err e.kind)))
    whole_not_read read = (λ p. p, λ p. p)

    value_at_front_read : (read : List ℕ → Result (V × List ℕ) ErrorKind) → ReadsFront value read asks (Ok x) (Some bytes) after
        ↔ ((rest : List ℕ) × (read bytes ≡ Ok (value x, rest)) × (after ≡ Some rest))
    value_at_front_read read = (λ p. p, λ p. p)

    value_at_front_not_read : (read : List ℕ → Result (V × List ℕ) ErrorKind)
        → ReadsFront value read asks (Err e) (Some bytes) after
        ↔ ((after ≡ None)
        × (((e.kind ≡ OutOfMemory) × ((front rest : List ℕ) × (bytes ≡ front ++ rest) × asks front))
        ⊎ (read bytes ≡ Err e.kind)))
    value_at_front_not_read read = (λ p. p, λ p. p)

    value_returned : (given : Result V ErrorKind) (asked : Type 0) → (Returns value given asked (Ok x)
        ↔ (given ≡ Ok (value x)))
        × (Returns value given asked (Err e) ↔ (((e.kind ≡ OutOfMemory) × asked) ⊎ (given ≡ Err e.kind)))
    value_returned given asked = ((λ p. p, λ p. p), (λ p. p, λ p. p))

    module _ (Encoding : V → List ℕ → Type 0) where
      encoding_read : ReadsEncoding value Encoding asks (Ok x) (Some bytes) after
          ↔ ((front rest : List ℕ) × (Some bytes ≡ Some (front ++ rest)) × (after ≡ Some rest)
          × Encoding (value x) front)
      encoding_read = (λ p. p, λ p. p)

      encoding_not_read : (before : Input) → ReadsEncoding value Encoding asks (Err e) before after
          ↔ ((after ≡ None) × (before ≡ None → e.kind ≡ Failed)
          × ((left : List ℕ) → before ≡ Some left
          → ((e.kind ≡ OutOfMemory) × ((front rest : List ℕ) × (left ≡ front ++ rest) × asks front))
          ⊎ (TellsOfBytes e.kind × ((v : V) (front rest : List ℕ) → left ≡ front ++ rest → Encoding v front → ⊥))))
      encoding_not_read before = (λ p. p, λ p. p)

      all_bytes_read : ReadsAll value Encoding asks (Ok x) bytes ↔ (((length bytes ≤ limit) × Encoding (value x) bytes)
          × ((other : V) → (length bytes ≤ limit) × Encoding other bytes → other ≡ value x))
      all_bytes_read = (λ p. p, λ p. p)

      not_all_bytes_read : ReadsAll value Encoding asks (Err e) bytes
          ↔ (((e.kind ≡ OutOfMemory) × ((front rest : List ℕ) × (bytes ≡ front ++ rest) × asks front))
          ⊎ (TellsOfBytes e.kind × ((v : V) → (length bytes ≤ limit) × Encoding v bytes → ⊥)))
      not_all_bytes_read = (λ p. p, λ p. p)

      decoded_or_memory : (asked : Type 0) → (DecodesOrMemory value Encoding asked bytes (Ok x)
          ↔ Decodes Encoding bytes (Some (value x)))
          × (DecodesOrMemory value Encoding asked bytes (Err e)
          ↔ (((e.kind ≡ OutOfMemory) × asked) ⊎ ((v : V) → Encoding v bytes → ⊥)))
      decoded_or_memory asked = ((λ p. p, λ p. p), (λ p. p, λ p. p))

next_told : (t : ℕ) (next : Bool) (before after : Input) → TellsNext t (Ok next) before after
    ↔ ((left : List ℕ) × (before ≡ Some left) × (after ≡ Some left) × Decides next (slice_get left 0 ≡ Some t))
next_told t next before after = (λ p. p, λ p. p)

next_not_told : (t : ℕ) (e : Error) (before after : Input) → TellsNext t (Err e) before after
    ↔ ((before ≡ None) × (after ≡ None) × (e.kind ≡ Failed))
next_not_told t e before after = (λ p. p, λ p. p)
