-- The other primes that an iterator has left: how many, and the first one. For `src/other_primes.rt`, and what makes
-- one in `src/viewed_key.rt`.
use Rattle.std.proofs.Common.{◌≡◌, ℕ, ◌-◌, ◌<◌, List, ◌∷◌, length, map, sym, ap, ◌∙◌, Ok}
use Rattle.der_core.specs.Words.{AreBytes}
use Rattle.std.proofs.lemmas.List.{length-map}
use Rattle.pkcs1.specs.Words.{held_other_primes, primes_encoded, number_front, primes_read, OtherRow, item_shorter, integer_law, primes_law, listed_printed, held_primes_behind_first, held_primes_are_read, next_law, next_some, held_primes_are_one, next_prime, others_left, others_left-is, other_stated}
use Rattle.std.specs.List.{concat}
use Rattle.pkcs1.specs.declared.other_primes.OtherPrimes.{OtherPrimes}

-- as many primes as rows
pub held_length : (primes : OtherPrimes) → length (others_left primes) ≡ length (held_other_primes primes)
held_length primes = sym (length-map (others_left primes) other_stated)

-- as many as it says
pub left_counted : (primes : OtherPrimes) → primes.left ≡ length (held_other_primes primes)
left_counted primes =
    sym (ap length (others_left-is primes) ∙ primes.held.2)
    ∙ held_length primes

-- their encodings
pub left_encoded : (primes : OtherPrimes) → AreBytes primes.bytes.now
    → primes.bytes.now ≡ primes_encoded (held_other_primes primes)
left_encoded primes are =
    let law = primes_law integer_law in
    (law.gives primes.bytes.now primes.held.0 are (held_primes_are_read primes.bytes.now primes.left primes.held)).1
    ∙ ap concat (sym (listed_printed primes.held.0))
    ∙ ap (λ others. primes_encoded (map other_stated others)) (sym (others_left-is primes))

-- what an iterator has left, and what it has left behind the first one
pub held_primes_step : (old new : OtherPrimes) (other : OtherRow ℕ) → new.left ≡ old.left - 1 → AreBytes old.bytes.now
    → next_prime old.bytes.now ≡ Ok (other, new.bytes.now)
    → held_other_primes old ≡ other_stated other ∷ held_other_primes new
held_primes_step old new other less are next =
    let s = held_primes_behind_first old.bytes.now new.bytes.now old.left other old.held are next in
    let same = held_primes_are_one new.bytes.now (old.left - 1) new.left s.0 new.held in
    ap (map other_stated) (others_left-is old ∙ s.1 ∙ ap (λ (o : List (OtherRow ℕ)). other ∷ o)
    (same ∙ sym (others_left-is new)))

-- the list that was kept
pub held_primes_read : (primes : OtherPrimes) (bytes : List ℕ) → primes.bytes.now ≡ bytes
    → primes_read number_front bytes ≡ Ok (others_left primes)
held_primes_read primes bytes is =
    ap (primes_read number_front) (sym is)
    ∙ held_primes_are_read primes.bytes.now primes.left primes.held
    ∙ ap (λ o. Ok o) (sym (others_left-is primes))

-- reading one leaves less
pub next_prime_shorter : (i rest : List ℕ) (other : OtherRow ℕ) → AreBytes i → next_prime i ≡ Ok (other, rest)
    → length rest < length i
next_prime_shorter i rest other are next = (item_shorter next_law next_some i rest other are next).0
