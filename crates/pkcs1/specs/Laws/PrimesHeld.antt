-- Items of a list, read one after another; and the bytes that hold other primes.
use Rattle.std.proofs.Common.{ℕ, zero, suc, List, [], ◌∷◌, ◌++◌, ◌≡◌, ◌<◌, ◌≤◌, length, refl, sym, subst, ap, ◌∙◌, arith, append_assoc, append-nil, length-append, Result, Ok, Err, ◌+◌, ◌-◌, Option, Some}
use Rattle.der_core.specs.declared.error.ErrorKind.{ErrorKind}
use Rattle.der_core.specs.Words.{AreBytes, back_bytes, ReadsFrontPrinted, FrontReading, items, items_within, made, ◌>>=◌, tagged_some, value_in}
use Prim.{IsProp, IsSet}
use mathlib.Core.HLevel.{is_prop→PathP}
use denote.Struct.Props.{props}
use Rattle.pkcs1.specs.KeyReadings.{number_front, primes_read}
use Rattle.pkcs1.specs.Keys.{OtherRow}
use Rattle.pkcs1.specs.OtherPrimesHeld.{HoldsPrimes, next_prime}
use Rattle.pkcs1.specs.Laws.PrintedKeys.{integer_law, other_law}
use Rattle.pkcs1.specs.Printing.{AnyNumber, OtherIsValid, other_printed}
use Rattle.standard.specs.Statement as standard
use Rattle.standard.specs.Statement.{sequence}

-- These items were read of the bytes, and the rest is left.
abbrev pub ItemsAreRead : {V : Type 0} → FrontReading V → List ℕ → List V → List ℕ → Type 0
ItemsAreRead at bytes vs rest = items at bytes ≡ made (λ ws. vs ++ ws) (items at) rest

made_itself : {V : Type 0} (r : Result V ErrorKind) → r ≡ (r >>= λ v. Ok v)
made_itself (Ok v) = refl
made_itself (Err k) = refl

made_again : {V : Type 0} (v : V) (vs : List V) (r : Result (List V) ErrorKind)
    → ((r >>= λ ws. Ok (v ∷ ws)) >>= λ ws. Ok (vs ++ ws)) ≡ (r >>= λ ws. Ok ((vs ++ v ∷ []) ++ ws))
made_again v vs (Ok ws) = ap (λ us. Ok us) (sym (append_assoc vs (v ∷ []) ws))
made_again v vs (Err k) = refl

pub no_items_are_read : {V : Type 0} (at : FrontReading V) (bytes : List ℕ) → ItemsAreRead at bytes [] bytes
no_items_are_read at bytes = made_itself (items at bytes)

-- None are left: all of them were read.
pub all_items_are_read : {V : Type 0} (at : FrontReading V) (bytes : List ℕ) (vs : List V) (rest : List ℕ)
    → ItemsAreRead at bytes vs rest → rest ≡ [] → items at bytes ≡ Ok vs
all_items_are_read at bytes vs rest are none =
    are ∙ ap (made (λ ws. vs ++ ws) (items at)) none ∙ ap (λ us. Ok us) (append-nil vs)

-- The next one isn't there.
pub item_fault_is_read : {V : Type 0} (at : FrontReading V) (bytes : List ℕ) (vs : List V) (rest : List ℕ)
    (k : ErrorKind)
    → ItemsAreRead at bytes vs rest → 0 < length rest → at rest ≡ Err k → items at bytes ≡ Err k
item_fault_is_read at bytes vs [] k are more fault = absurd (omega (arith, more))
item_fault_is_read at bytes vs (x ∷ xs) k are more fault =
    are
    ∙ ap (λ r. (r >>= λ p. made (λ ws. p.0 ∷ ws) (items_within (length xs) at) p.1) >>= λ ws. Ok (vs ++ ws)) fault

module _ {V : Type 0} {valid : V → Type 0} {printed : V → List ℕ} {at : FrontReading V}
    (law : ReadsFrontPrinted valid printed at) (some : (v : V) → 0 < length (printed v)) where
  -- An item takes some bytes.
  pub item_shorter : (i rest : List ℕ) (v : V) → AreBytes i → at i ≡ Ok (v, rest)
      → (length rest < length i) × AreBytes rest
  item_shorter i rest v bytes e =
      let is = (law.gives i rest v bytes e).1 in (
        omega (arith, some v, ap length is, length-append (printed v) rest),
        back_bytes (printed v) rest (subst AreBytes is bytes),
      )

  items_within_enough : (n m : ℕ) (c : List ℕ) → AreBytes c → length c ≤ n → length c ≤ m
      → items_within n at c ≡ items_within m at c
  items_within_enough n m [] bytes few less = refl
  items_within_enough zero m (x ∷ xs) bytes few less = absurd (omega (arith, few))
  items_within_enough (suc n) zero (x ∷ xs) bytes few less = absurd (omega (arith, less))
  items_within_enough (suc n) (suc m) (x ∷ xs) bytes few less = go (items_within_enough n m) (at (x ∷ xs)) refl
    where
      go : ((c : List ℕ) → AreBytes c → length c ≤ n → length c ≤ m → items_within n at c ≡ items_within m at c)
          → (r : Result (V × List ℕ) ErrorKind) → at (x ∷ xs) ≡ r
          → (r >>= λ p. made (λ ws. p.0 ∷ ws) (items_within n at) p.1)
          ≡ (r >>= λ p. made (λ ws. p.0 ∷ ws) (items_within m at) p.1)
      go same (Ok (v, rest)) e =
          let s = item_shorter (x ∷ xs) rest v bytes e in
          ap (λ r. r >>= λ ws. Ok (v ∷ ws)) (same rest s.1 (omega (arith, few, s.0)) (omega (arith, less, s.0)))
      go same (Err k) e = refl

  pub items_step : (i rest : List ℕ) (v : V) → AreBytes i → at i ≡ Ok (v, rest)
      → items at i ≡ made (λ ws. v ∷ ws) (items at) rest
  items_step [] rest v bytes e = let s = item_shorter [] rest v bytes e in absurd (omega (arith, s.0))
  items_step (x ∷ xs) rest v bytes e =
      let s = item_shorter (x ∷ xs) rest v bytes e in
      ap (λ r. r >>= λ p. made (λ ws. p.0 ∷ ws) (items_within (length xs) at) p.1) e
      ∙ ap (λ r. r >>= λ ws. Ok (v ∷ ws))
      (items_within_enough (length xs) (length rest) rest s.1 (omega (arith, s.0)) (omega arith))

  -- One more was read.
  pub one_more_item_is_read : (bytes : List ℕ) (vs : List V) (rest behind : List ℕ) (v : V) → AreBytes rest
      → ItemsAreRead at bytes vs rest → at rest ≡ Ok (v, behind) → ItemsAreRead at bytes (vs ++ v ∷ []) behind
  one_more_item_is_read bytes vs rest behind v are read next =
      read
      ∙ ap (λ r. r >>= λ ws. Ok (vs ++ ws)) (items_step rest behind v are next)
      ∙ made_again v vs (items at behind)

-- Bytes that hold the encodings of other primes, in a row, and how many: by the function that reads them.
pub next_law : ReadsFrontPrinted (OtherIsValid AnyNumber) (λ other. sequence (other_printed standard.integer other))
    next_prime
next_law = other_law integer_law

pub next_some : (other : OtherRow ℕ) → 0 < length (sequence (other_printed standard.integer other))
next_some = tagged_some (other_printed standard.integer) 48

-- There is one such list at most.
primes_set : IsSet (Option (List (OtherRow ℕ)))
primes_set = hlevel props

count_set : IsSet ℕ
count_set = hlevel props

primes_some_injective : {V : Type 0} {v w : V} → ◌≡◌ {A = Option V} (Some v) (Some w) → v ≡ w
primes_some_injective e = cc

pub held_primes_are_one : (bytes : List ℕ) (left right : ℕ) (p : HoldsPrimes bytes left) (q : HoldsPrimes bytes right)
    → p.0 ≡ q.0
held_primes_are_one bytes left right p q = primes_some_injective (sym p.1 ∙ q.1)

pub HoldsPrimes-prop : (bytes : List ℕ) (left : ℕ) → IsProp (HoldsPrimes bytes left)
HoldsPrimes-prop bytes left p q =
    let s = held_primes_are_one bytes left left p q in
    let read = value_in (primes_read number_front bytes) in
    λ i. (
      s i,
      is_prop→PathP (λ h. read ≡ Some (s h)) (λ h. primes_set read (Some (s h))) p.1 q.1 i,
      is_prop→PathP (λ h. length (s h) ≡ left) (λ h. count_set (length (s h)) left) p.2 q.2 i,
    )

-- The function reads the list that is held.
read_of : {V : Type 0} (r : Result V ErrorKind) (v : V) → value_in r ≡ Some v → r ≡ Ok v
read_of (Ok w) v e = ap (λ u. Ok u) (primes_some_injective e)
read_of (Err k) v e = cc

pub held_primes_are_read : (bytes : List ℕ) (left : ℕ) (h : HoldsPrimes bytes left) → primes_read number_front bytes
    ≡ Ok h.0
held_primes_are_read bytes left h = read_of (primes_read number_front bytes) h.0 h.1

-- The first one, and those behind it.
pub held_primes_behind_first : (bytes rest : List ℕ) (left : ℕ) (other : OtherRow ℕ) (h : HoldsPrimes bytes left)
    → AreBytes bytes
    → next_prime bytes ≡ Ok (other, rest) → (t : HoldsPrimes rest (left - 1)) × (h.0 ≡ other ∷ t.0)
held_primes_behind_first bytes rest left other h are next =
    go (primes_read number_front rest) refl
    (sym (items_step next_law next_some bytes rest other are next) ∙ held_primes_are_read bytes left h)
  where
    go : (r : Result (List (OtherRow ℕ)) ErrorKind) → primes_read number_front rest ≡ r
        → (r >>= λ os. Ok (other ∷ os)) ≡ Ok h.0 → (t : HoldsPrimes rest (left - 1)) × (h.0 ≡ other ∷ t.0)
    go (Ok os) read e =
        let same : other ∷ os ≡ h.0 = primes_some_injective (ap value_in e) in
        ((os, ap value_in read, omega (arith, h.2, ap length same)), sym same)
    go (Err k) read e = cc

pub held_primes_have_first : (bytes : List ℕ) (left : ℕ) (k : ErrorKind) → HoldsPrimes bytes left → (left ≡ 0 → ⊥)
    → next_prime bytes ≡ Err k → ⊥
held_primes_have_first [] left k h some fault = some (sym h.2 ∙ ap length (primes_some_injective (sym h.1)))
held_primes_have_first (x ∷ xs) left k h some fault =
    let never = item_fault_is_read next_prime (x ∷ xs) [] (x ∷ xs) k (no_items_are_read next_prime (x ∷ xs))
    (omega arith) fault in
    let both = sym (held_primes_are_read (x ∷ xs) left h) ∙ never in cc

-- So many were read of the bytes, and the rest is left.
abbrev pub PrimesAreCounted : List ℕ → List ℕ → ℕ → Type 0
PrimesAreCounted bytes rest count =
    (others : List (OtherRow ℕ)) × ItemsAreRead next_prime bytes others rest × (length others ≡ count)
    × (count + length rest ≤ length bytes)

pub no_primes_counted : (bytes : List ℕ) → PrimesAreCounted bytes bytes 0
no_primes_counted bytes = ([], no_items_are_read next_prime bytes, refl, omega arith)

pub one_more_prime_counted : (bytes rest behind : List ℕ) (count : ℕ) (other : OtherRow ℕ) → AreBytes rest
    → PrimesAreCounted bytes rest count → next_prime rest ≡ Ok (other, behind)
    → PrimesAreCounted bytes behind (count + 1)
one_more_prime_counted bytes rest behind count other are (others, read, counted, few) next =
    let less = (item_shorter next_law next_some rest behind other are next).0 in (
      others ++ other ∷ [],
      one_more_item_is_read next_law next_some bytes others rest behind other are read next,
      omega (arith, counted, length-append others (other ∷ [])),
      omega (arith, few, less),
    )

pub all_primes_counted : (bytes rest : List ℕ) (count : ℕ) → PrimesAreCounted bytes rest count → rest ≡ []
    → HoldsPrimes bytes count
all_primes_counted bytes rest count (others, read, counted, few) none =
    (others, ap value_in (all_items_are_read next_prime bytes others rest read none), counted)

pub prime_fault_counted : (bytes rest : List ℕ) (count : ℕ) (k : ErrorKind) → PrimesAreCounted bytes rest count
    → 0 < length rest
    → next_prime rest ≡ Err k → primes_read number_front bytes ≡ Err k
prime_fault_counted bytes rest count k (others, read, counted, few) more fault =
    item_fault_is_read next_prime bytes others rest k read more fault
