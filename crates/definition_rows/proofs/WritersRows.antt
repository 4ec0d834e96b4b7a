-- Worked rows of `Writers.antt` of `der_core`: what a writer was given, and its room.
use Rattle.std.proofs.Common.{ℕ, List, ◌++◌, ◌≡◌, ◌+◌, ◌<◌, Some, None}
use Rattle.std.specs.Prelude.{◌↔◌}
use Rattle.der_core.specs.Writers.{LacksRoom, Receives, ReceivesBeginning, ReceivesNothing, TakesRoom}

module _ (octets : List ℕ) (Old New : List ℕ → Type 0) where
  octets_received : Receives octets Old New ↔ ((before : List ℕ) → Old before → New (before ++ octets))
  octets_received = (λ p. p, λ p. p)

  nothing_received : ReceivesNothing Old New ↔ ((before : List ℕ) → Old before → New before)
  nothing_received = (λ p. p, λ p. p)

  beginning_received : ReceivesBeginning octets Old New ↔ ((front back : List ℕ) × (front ++ back ≡ octets)
      × ((before : List ℕ) → Old before → New (before ++ front)))
  beginning_received = (λ p. p, λ p. p)

room_taken : (n old new : ℕ) → TakesRoom n (Some old) (Some new) ↔ (new + n ≡ old)
room_taken n old new = (λ p. p, λ p. p)

no_limit_stays : (n room : ℕ) → TakesRoom n None None × (TakesRoom n None (Some room) → ⊥)
    × (TakesRoom n (Some room) None → ⊥)
no_limit_stays n room = (tt, (λ p. p), (λ p. p))

room_lacks : (n room : ℕ) → (LacksRoom n (Some room) ↔ (room < n)) × (LacksRoom n None → ⊥)
room_lacks n room = ((λ p. p, λ p. p), (λ p. p))
