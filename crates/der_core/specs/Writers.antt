-- What a writer was given, and its room.
use Rattle.std.specs.Prelude.{ℕ, ◌≡◌, ◌+◌, ◌<◌, List, ◌++◌, Option, Some, None, ⊤}
use Rattle.std.specs.Option.{IsSomeAnd}

-- Octets were written behind those before, where old and new say which were written.
abbrev pub Receives : List ℕ → (List ℕ → Type 0) → (List ℕ → Type 0) → Type 0
Receives octets old new = (before : List ℕ) → old before → new (before ++ octets)

-- Nothing was written.
abbrev pub ReceivesNothing : (List ℕ → Type 0) → (List ℕ → Type 0) → Type 0
ReceivesNothing old new = (before : List ℕ) → old before → new before

-- A beginning of the octets was written.
abbrev pub ReceivesBeginning : List ℕ → (List ℕ → Type 0) → (List ℕ → Type 0) → Type 0
ReceivesBeginning octets old new = (front back : List ℕ) × (front ++ back ≡ octets) × Receives front old new

-- So many octets took their room, where there is a limit.
abbrev pub TakesRoom : ℕ → Option ℕ → Option ℕ → Type 0
TakesRoom n None None = ⊤
TakesRoom n None (Some new) = ⊥
TakesRoom n (Some old) None = ⊥
TakesRoom n (Some old) (Some new) = new + n ≡ old

-- There is too little room for so many octets.
abbrev pub LacksRoom : ℕ → Option ℕ → Type 0
LacksRoom n room = IsSomeAnd room (λ left. left < n)
