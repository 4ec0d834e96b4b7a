-- What sources give and sinks take.
use Rattle.std.specs.Prelude.{◌≡◌, ℕ, ◌+◌, ◌-◌, ◌^◌, ◌<◌, ◌≤◌, min, List, length, take, Option, MatchResult}
use Rattle.std.specs.declared.result.Result.{Result}
use Rattle.std.specs.Io.KnownBytes.{Appends, Consumes, IsAtEnd}

-- These are all the bytes that came, up to the end.
abbrev pub GivesAll : Option (List ℕ) → Option (List ℕ) → List ℕ → Type 0
GivesAll old new bytes = Consumes old new bytes × IsAtEnd new

-- More bytes than the limit came, by at most one piece.
abbrev pub GivesMore : ℕ → ℕ → Option (List ℕ) → Option (List ℕ) → Type 0
GivesMore limit piece old new =
    (bytes : List ℕ) × Consumes old new bytes × (limit < length bytes) × (length bytes ≤ limit + piece)

-- At least one byte came, and no more than the limit.
abbrev pub GivesSome : ℕ → Option (List ℕ) → Option (List ℕ) → Type 0
GivesSome limit old new =
    (bytes : List ℕ) × Consumes old new bytes × (0 < length bytes) × (length bytes ≤ limit)

-- A beginning of the bytes was taken.
abbrev pub AppendsFront : Option (List ℕ) → Option (List ℕ) → List ℕ → Type 0
AppendsFront old new bytes = (n : ℕ) × Appends old new (take n bytes)

-- One call failed: the count rose by one, or stays at its greatest value.
abbrev pub OneFailed : ℕ → ℕ → Type 0
OneFailed old new = new ≡ min (old + 1) (2 ^ 64 - 1)

-- A count of failed calls.
abbrev pub CountsFailure : {T E : Type 0} → ℕ → ℕ → Result T E → Type 0
CountsFailure old new r = MatchResult r (λ _. new ≡ old) (λ _. OneFailed old new)
