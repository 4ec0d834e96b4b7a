-- Other primes that are read from a list and placed in an array. For `pkcs1_c_other_primes`.
use Rattle.std.proofs.Common.{ℕ, List, [], ◌∷◌, ◌++◌, ◌≡◌, ◌+◌, ◌<◌, ◌⊎◌, inr, length, map, take, drop, sym, ap, ◌∙◌, arith, set, drop-set-lt, drop-drop, ◌≤◌, refl, Err, Ok, length-append}
use Rattle.std.proofs.lemmas.List.{map-set, take_more_set, length-map}
use Rattle.std.proofs.lemmas.Grind.{common_steps}
use Rattle.der_core.specs.Words.{limit, ok_pair}
use Rattle.der_core.specs.declared.error.ErrorKind.{ErrorKind}
use Rattle.pkcs1.proofs.OtherPrimesHeld.{next_prime_shorter}
use Rattle.pkcs1.specs.Words.{primes_encoded, next_law, next_prime, other_from, other_stated}
use Rattle.pkcs1.specs.Keys as keys
use Rattle.standard.specs.Statement.{OtherPrime}
use Rattle.pkcs1_c.specs.Words.{prime_encoded, ArePlaced, numbers_of_prime, octets_of_prime}
use Rattle.pkcs1_c.specs.declared.private_key.OtherPrime as struct

-- The first of the primes are placed, and the others are left of the list.
pub record Placing (primes : List OtherPrime) (left : List ℕ) (others old : List struct.OtherPrime) (i : ℕ) : Type 0 where
  pub behind : List OtherPrime
  pub few : length (primes_encoded behind) ≤ limit
  pub reads : left ≡ primes_encoded behind
  pub placed : take i (map numbers_of_prime others) ++ map octets_of_prime behind ≡ map octets_of_prime primes
  pub kept : drop i others ≡ drop i old

-- What is read of the primes that are left.
next_prime_found : (o : OtherPrime) (others : List OtherPrime) → length (primes_encoded (o ∷ others)) ≤ limit
    → next_prime (primes_encoded (o ∷ others)) ≡ Ok (other_from o, primes_encoded others)
next_prime_found o others few = next_law.takes (other_from o) (primes_encoded others) (tt, (tt, (tt, tt))) few

-- The next one is placed.
module _ (primes : List OtherPrime) (left after : List ℕ) (others old : List struct.OtherPrime) (i : ℕ)
    (made : struct.OtherPrime) (other : keys.OtherRow ℕ) (less : i < length others)
    (holds : numbers_of_prime made ≡ octets_of_prime (other_stated other))
    (gives : next_prime left ≡ Ok (other, after))
  where
    pub one_placed : Placing primes left others old i → Placing primes after (set others i made) old (i + 1)
    one_placed p = go p.behind p.few p.placed (rw p.reads at gives)
      where
        go : (behind : List OtherPrime) → length (primes_encoded behind) ≤ limit
            → take i (map numbers_of_prime others) ++ map octets_of_prime behind ≡ map octets_of_prime primes
            → next_prime (primes_encoded behind) ≡ Ok (other, after)
            → Placing primes after (set others i made) old (i + 1)
        go [] few placed read = absurd (omega (arith, next_prime_shorter [] after other tt read))
        go (o ∷ behind) few placed read =
            let same = ok_pair _ _ _ _ (sym (next_prime_found o behind few) ∙ read) in
            record {
              behind = behind;
              few = omega (arith, length-append (prime_encoded o) (primes_encoded behind));
              reads = sym same.1;
              placed = grind (arith, common_steps, map-set, take_more_set, length-map);
              kept = grind (arith, common_steps, drop-set-lt, drop-drop);
            }

-- All are placed, as many as fit: the array is full, or no more is read.
module _ (primes : List OtherPrime) (left : List ℕ) (others old : List struct.OtherPrime) (i : ℕ)
    (less : i ≤ length others) (same : length others ≡ length old) where
  pub placing_all_placed : (p : Placing primes left others old i) → (i ≡ length others) ⊎ (p.behind ≡ [])
      → ArePlaced primes others × (drop (length primes) others ≡ drop (length primes) old)
  placing_all_placed p end =
      let count = length-map primes octets_of_prime in
      (grind (arith, common_steps), grind (arith, common_steps))

  -- where no more is read, none is left
  placing_none_left : {k : ErrorKind} → next_prime left ≡ Err k
      → (behind : List OtherPrime)
      → length (primes_encoded behind) ≤ limit → left ≡ primes_encoded behind → behind ≡ []
  placing_none_left fault [] few reads = refl
  placing_none_left fault (o ∷ behind) few reads = let never = sym fault ∙ ap next_prime reads ∙ next_prime_found o behind few in cc

  pub placing_stopped : {k : ErrorKind} → next_prime left ≡ Err k → Placing primes left others old i
      → ArePlaced primes others × (drop (length primes) others ≡ drop (length primes) old)
  placing_stopped fault p = placing_all_placed p (inr (placing_none_left fault p.behind p.few p.reads))
