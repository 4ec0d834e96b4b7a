-- How much of the output was written.
use Rattle.std.specs.Prelude.{◌≡◌, ℕ, List, ◌++◌, Option, Result, Ok, Err}
use Rattle.std.specs.Io.KnownBytes.{Appends}
use Rattle.der_core.specs.Words.{AppendsFront, OneFailed}
use Rattle.pkcs1_program.specs.Answer.{Outputs}
use Rattle.pkcs1_program.specs.declared.fault.Fault.{Fault}
use Rattle.pkcs1_program.specs.declared.fault.Fault.TheVariants.{Write}

-- Exactly the output for these lines was written.
abbrev pub WritesOutput : Option (List ℕ) → Option (List ℕ) → List (List ℕ) → Type 0
WritesOutput old new lines = (output : List ℕ) × Outputs lines output × Appends old new output

-- Exactly the output for the first lines, however many, was written.
abbrev pub WritesFirst : Option (List ℕ) → Option (List ℕ) → List (List ℕ) → Type 0
WritesFirst old new lines =
    (first : List (List ℕ)) × (later : List (List ℕ)) × (lines ≡ first ++ later) × WritesOutput old new first

-- Exactly a beginning of the output for the first lines, however many, was written.
abbrev pub WritesFront : Option (List ℕ) → Option (List ℕ) → List (List ℕ) → Type 0
WritesFront old new lines = (first : List (List ℕ)) × (later : List (List ℕ)) × (lines ≡ first ++ later)
    × (output : List ℕ) × Outputs first output × AppendsFront old new output

-- Exactly a beginning of the output for all lines was written, whatever that output is.
abbrev pub WritesFrontOfAll : Option (List ℕ) → Option (List ℕ) → List (List ℕ) → Type 0
WritesFrontOfAll old new lines = (output : List ℕ) → Outputs lines output → AppendsFront old new output

-- The output for these lines was made: its front was written, and the rest is held.
abbrev pub MakesOutput : Option (List ℕ) → Option (List ℕ) → List ℕ → List (List ℕ) → Type 0
MakesOutput old new held lines = (front : List ℕ) × Appends old new front × Outputs lines (front ++ held)

-- The same for the first lines, however many.
abbrev pub MakesFirst : Option (List ℕ) → Option (List ℕ) → List ℕ → List (List ℕ) → Type 0
MakesFirst old new held lines =
    (first : List (List ℕ)) × (later : List (List ℕ)) × (lines ≡ first ++ later) × MakesOutput old new held first

-- All bytes were written, in order, and no call failed; or a beginning of them was written, and one call failed.
abbrev pub WritesOut : {X : Type 0} → List ℕ → Result X Fault → Option (List ℕ) → Option (List ℕ) → ℕ → ℕ → Type 0
WritesOut bytes (Ok x) old new failures failures2 = Appends old new bytes × (failures2 ≡ failures)
WritesOut bytes (Err fault) old new failures failures2 =
    (fault ≡ Write) × AppendsFront old new bytes × OneFailed failures failures2

-- A front of what was held was written, in order, the rest is held still, and no call failed; or a beginning of it was
-- written, and one call failed.
abbrev pub WritesHeld : {X : Type 0} → List ℕ → List ℕ → Result X Fault → Option (List ℕ) → Option (List ℕ) → ℕ → ℕ
    → Type 0
WritesHeld held held2 (Ok x) old new failures failures2 =
    (front : List ℕ) × Appends old new front × (held ≡ front ++ held2) × (failures2 ≡ failures)
WritesHeld held held2 (Err fault) old new failures failures2 =
    (fault ≡ Write) × AppendsFront old new held × OneFailed failures failures2
