-- Why what a program gives isn't written: one status at most, neither 0 nor that of lack of room for a part. For each
-- call that takes a struct.
use Rattle.std.proofs.Common.{ℕ, List, [], ◌∷◌, ◌++◌, ◌≡◌, ◌≢◌, ◌+◌, ◌<◌, length, take, drop, take-append-drop, get_or, refl, subst, sym, ap, ◌∙◌, arith, rules, Option, Some, None, inl, inr}
use Rattle.std.proofs.lemmas.List.{take_more, drop_more}
use Rattle.der_core.specs.Words.{WhyNoNumber, octets_canonical, octets_number, AllHave}
use Rattle.der_core.specs.declared.error.ErrorKind.{ErrorKind}
use Rattle.pkcs1_c.specs.Words.{NoStatus, kind_number, PartThen, NumberError, NumbersError, UnwrittenStatus, numbers_of_primes, OidError, AnyError, OptionError, AlgorithmError, PlainError, HashFieldsThen, PssFieldError, OaepFieldError, HaveBytes, number_seen, numbers_of_prime}
use Rattle.pkcs1_c.specs.declared.private_key.OtherPrime.{OtherPrime}
use Rattle.standard.specs.Statement.{Algorithm, OaepParameters, PssParameters, TagAndContents, octets}

-- There is one status at most.
abbrev pub HasOneStatus : (ℕ → Type 0) → Type 0
HasOneStatus WhyNot = (s t : ℕ) → WhyNot s → WhyNot t → s ≡ t

-- An error, and not lack of room.
abbrev pub IsNeitherOkNorNoRoom : (ℕ → Type 0) → Type 0
IsNeitherOkNorNoRoom WhyNot = (s : ℕ) → WhyNot s → (0 < s) × (s ≢ 15)

-- What is so of each part.
abbrev pub IsPartError : (ℕ → Type 0) → Type 0
IsPartError WhyNot = HasOneStatus WhyNot × IsNeitherOkNorNoRoom WhyNot

-- There is one reason at most why a value isn't written.
pub unwritten_one : {V : Type 0} (Encoding : V → List ℕ → Type 0) (v : V) (room : ℕ)
    → HasOneStatus (UnwrittenStatus Encoding v room)
unwritten_one Encoding v room s t p q = grind arith

-- Parts.
module _ (WhyNot Rest : ℕ → Type 0) where
  -- A part, then another.
  pub part_then : IsPartError WhyNot → IsPartError Rest → IsPartError (PartThen WhyNot Rest)
  part_then p q = search rules

  -- Where neither has a status, the first has none; and the other way round.
  pub part_first : NoStatus (PartThen WhyNot Rest) → NoStatus WhyNot
  part_first none s p = none s (inl p)

  pub part_none : NoStatus WhyNot → NoStatus Rest → NoStatus (PartThen WhyNot Rest)
  part_none none rest s p = search rules

-- Numbers.
pub number_rejected : (bytes : List ℕ) (k : ErrorKind) → WhyNoNumber bytes k → NumberError bytes (kind_number k)
number_rejected bytes k (inl p) = search rules
number_rejected [] k (inr p) = absurd (omega (arith, p.0 (0 ∷ []) (inl refl) refl))
number_rejected (b ∷ bytes) k (inr p) =
    let n = number_seen (b ∷ bytes) in
    inr (ap kind_number p.1, omega arith, p.0 (octets n) (octets_canonical n) (octets_number n))

number_has : (bytes : List ℕ) → NoStatus (NumberError bytes) → 0 < length bytes
number_has [] none = absurd (none 4 (search rules))
number_has (b ∷ bytes) none = omega arith

-- There is one status at most, and none if each number has none.
pub numbers_part : (ns : List (List ℕ)) → IsPartError (NumbersError ns)
numbers_part [] = (λ s t p q. absurd p, λ s p. absurd p)
numbers_part (n ∷ ns) = part_then (NumberError n) (NumbersError ns) (grind arith, grind arith) (numbers_part ns)

pub numbers_none_held : (ns : List (List ℕ)) → AllHave (λ n. NoStatus (NumberError n)) ns → NoStatus (NumbersError ns)
numbers_none_held [] none s p = p
numbers_none_held (n ∷ ns) none s p =
    part_none (NumberError n) (NumbersError ns) none.0 (numbers_none_held ns none.1) s p

-- Numbers that can be held have bytes.
pub numbers_have : (ns : List (List ℕ)) → NoStatus (NumbersError ns) → HaveBytes ns
numbers_have [] none = tt
numbers_have (n ∷ ns) none =
    let first = part_first (NumberError n) (NumbersError ns) none in search (rules, number_has, numbers_have ns)

-- A number that can't be held is in front; or behind those that can be.
pub numbers_before : (ns ms : List (List ℕ)) (s : ℕ) → NumbersError ns s → NumbersError (ns ++ ms) s
numbers_before [] ms s p = absurd p
numbers_before (n ∷ ns) ms s p = search (rules, numbers_before ns ms s)

pub numbers_behind : (ns ms : List (List ℕ)) → NoStatus (NumbersError ns) → (s : ℕ) → NumbersError ms s
    → NumbersError (ns ++ ms) s
numbers_behind [] ms none s p = p
numbers_behind (n ∷ ns) ms none s p =
    let first = part_first (NumberError n) (NumbersError ns) none in search (rules, numbers_behind ns ms)

pub numbers_none_both : (ns ms : List (List ℕ)) → NoStatus (NumbersError ns) → NoStatus (NumbersError ms)
    → NoStatus (NumbersError (ns ++ ms))
numbers_none_both [] ms none more = more
numbers_none_both (n ∷ ns) ms none more =
    let first = part_first (NumberError n) (NumbersError ns) none in
    part_none (NumberError n) (NumbersError (ns ++ ms)) first
    (numbers_none_both ns ms (λ t q. none t (inr (first, q))) more)

-- Numbers that can be held, of which some are in front.
pub numbers_none_apart : (ns ms : List (List ℕ)) → NoStatus (NumbersError (ns ++ ms))
    → NoStatus (NumbersError ns) × NoStatus (NumbersError ms)
numbers_none_apart ns ms none =
    let first : NoStatus (NumbersError ns) = λ s p. none s (numbers_before ns ms s p) in
    (first, λ s p. none s (numbers_behind ns ms first s p))

-- The numbers of primes, and of those behind them.
numbers_joined : (os more : List OtherPrime)
    → numbers_of_primes (os ++ more) ≡ numbers_of_primes os ++ numbers_of_primes more
numbers_joined [] more = refl
numbers_joined (o ∷ os) more = ap (λ ns. numbers_of_prime o ++ ns) (numbers_joined os more)

-- One of the primes, those before it, and those behind it.
module _ (os : List OtherPrime) (i : ℕ) (d : OtherPrime) (l : i < length os) where
  abbrev numbers_in_front : List (List ℕ)
  numbers_in_front = numbers_of_primes (take i os)

  abbrev numbers_of_one : List (List ℕ)
  numbers_of_one = numbers_of_prime (get_or os i d)

  abbrev numbers_after : List (List ℕ)
  numbers_after = numbers_of_primes (drop (i + 1) os)

  -- All numbers are those before it, its own, and those after it.
  numbers_around_prime : numbers_of_primes os ≡ numbers_in_front ++ (numbers_of_one ++ numbers_after)
  numbers_around_prime =
      ap numbers_of_primes (sym (take-append-drop i os)) ∙ numbers_joined (take i os) (drop i os)
      ∙ ap (λ more. numbers_in_front ++ numbers_of_primes more) (drop_more os i d l)

  -- It is rejected, and those before it can be held.
  pub numbers_rejected_at : (s : ℕ) → NoStatus (NumbersError numbers_in_front) → NumbersError numbers_of_one s
      → NumbersError (numbers_of_primes os) s
  numbers_rejected_at s none p =
      subst (λ ns. NumbersError ns s) (sym numbers_around_prime)
      (numbers_behind numbers_in_front (numbers_of_one ++ numbers_after) none s
      (numbers_before numbers_of_one numbers_after s p))

  -- All of them can be held.
  pub numbers_held_at : NoStatus (NumbersError (numbers_of_primes os)) → NoStatus (NumbersError numbers_of_one)
  numbers_held_at none =
      let all = subst (λ ns. NoStatus (NumbersError ns)) numbers_around_prime none in
      (numbers_none_apart numbers_of_one numbers_after
      (numbers_none_apart numbers_in_front (numbers_of_one ++ numbers_after) all).1).0

  -- One more of them can be held.
  pub others_held_more : NoStatus (NumbersError numbers_in_front) → NoStatus (NumbersError numbers_of_one)
      → NoStatus (NumbersError (numbers_of_primes (take (i + 1) os)))
  others_held_more none one =
      rw (take_more os i d l, numbers_joined (take i os) (get_or os i d ∷ []))
      (numbers_none_both numbers_in_front numbers_of_one none one)

-- Algorithms.
module _ {P : Type 0} (WhyNot : P → ℕ → Type 0) (part : (v : P) → IsPartError (WhyNot v)) where
  option_part : (o : Option P) → IsPartError (OptionError WhyNot o)
  option_part None = (λ s t p q. absurd p, λ s p. absurd p)
  option_part (Some v) = part v

  algorithm_part : (a : Algorithm P) → IsPartError (AlgorithmError WhyNot a)
  algorithm_part a =
      part_then (OidError a.oid) (OptionError WhyNot a.parameters)
      (grind arith, grind arith) (option_part a.parameters)

plain_part : (a : Algorithm TagAndContents) → IsPartError (PlainError a)
plain_part = algorithm_part AnyError (λ v. (grind arith, grind arith))

-- Parameters.
hash_part : (hash : Algorithm TagAndContents) (mask : Algorithm (Algorithm TagAndContents)) (Rest : ℕ → Type 0)
    → IsPartError Rest → IsPartError (HashFieldsThen hash mask Rest)
hash_part hash mask Rest rest =
    let first = plain_part hash in
    let second = algorithm_part PlainError plain_part mask in search (rules, part_then)

pub pss_part : (p : PssParameters) → IsPartError (PssFieldError p)
pss_part p = hash_part p.hash p.mask_gen _ (grind arith, grind arith)

pub oaep_part : (p : OaepParameters) → IsPartError (OaepFieldError p)
oaep_part p = hash_part p.hash p.mask_gen (PlainError p.p_source) (plain_part p.p_source)
