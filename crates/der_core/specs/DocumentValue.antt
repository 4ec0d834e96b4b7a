-- The encodings that documents hold.
use Rattle.std.specs.Prelude.{ℕ, List, ◌≡◌, ◌⊎◌, Result, Ok, Err}
use Rattle.der_core.specs.declared.document.DocumentOf.{DocumentOf}
use Rattle.der_core.specs.declared.error.Error.{Error}
use Rattle.der_core.specs.Document.{WhyNotCounted, WithinLimit}
use Rattle.der_core.specs.Writing.{WhyOctetsNotCounted, IsOutOfMemory, encode_error}
use Rattle.standard.specs.Statement.{IsShortest}

abbrev pub encoding_of : {S : Type 0} → DocumentOf S → List ℕ
encoding_of document = document.bytes.items

-- The document holds the octets that are written of the value, its shortest encoding. Or memory ran out, for octets
-- that can be counted; or they can't be counted, for a reason that holds of the octets and of the grammar.
abbrev pub HoldsMessage : {X V : Type 0} → (X → List ℕ) → Result X Error
    → Type 0 → List ℕ → (V → List ℕ → Type 0) → V → Type 0
HoldsMessage encoding (Ok document) has octets Grammar v =
    has × (encoding document ≡ octets) × IsShortest (WithinLimit Grammar) v (encoding document)
HoldsMessage encoding (Err e) has octets Grammar v =
    IsOutOfMemory has octets e.kind
    ⊎ (WhyOctetsNotCounted has octets (encode_error e.kind) × WhyNotCounted has Grammar v (encode_error e.kind))
