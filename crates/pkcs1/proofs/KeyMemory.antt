-- Which encodings of keys need memory: none of two primes, where its numbers need none; and what borrowed and owned
-- numbers make of it. For the calls that decode keys.
use Rattle.std.proofs.Common.{ℕ, List, [], ◌∷◌, ◌++◌, ◌≡◌, ◌≤◌, length, map, refl, sym, ap, ◌∙◌, arith, append_assoc, append-nil, length-append, inl, inr, ⊎_elim, Option, Some, None, option_map}
use Rattle.std.specs.List.{concat}
use Rattle.der_core.specs.declared.error.ErrorKind.{ErrorKind}
use Rattle.der_core.specs.Words.{tlv_recast, tlv_not_empty, tlv_split, parts_ask_as_each, tlv_fit, tlv_is, tlv_made, prints_one, limit, AllocatesInParts, ReadsFrontPrinted, number_contents, AllocatesBehind, AllocatesAtFront, BeginsWithEncoding, FaultOrMemory, NoValueOrMemory, FrontReading, Tlv, tlv}
use Rattle.pkcs1.specs.Words.{AllocatesForKey, AllocatesInNumbers, AllocatesInOther, AllocatesInOthers, NumberPrints, OthersFollow, VersionPrints, OtherRow, PrivateRow, private_front_parts, key_numbers, integer_law, front_law, others_in, private_spells, read_valid, others_as, AnyNumber, FrontPrints, OtherPrints, PrivateIsValid, PrivateSpells, front_printed, others_printed, private_printed, other_from, private_from}
use Rattle.standard.specs.Statement as standard
use Rattle.standard.specs.Statement.{integer}

-- Numbers that need no memory are read without.
pub numbers_ask_none : {V : Type 0} {encoding : V → List ℕ → Type 0} {may : List ℕ → Type 0}
    → ((b : List ℕ) → may b → ⊥) → (c : List ℕ) → AllocatesInNumbers encoding may c → ⊥
numbers_ask_none {V} {encoding} {may} none =
    parts_ask_as_each VersionPrints (λ b t. t.holds) (next (next (next (next (next (next (next (next (λ c w. w)))))))))
  where
    next : {rest : List ℕ → Type 0} → ((c : List ℕ) → rest c → ⊥) → (c : List ℕ)
        → AllocatesInParts encoding may rest c → ⊥
    next rest = parts_ask_as_each encoding none rest

-- Primes that mean none are none.
others_as_none : {S V : Type 0} (means : S → V) (primes : Option (List (OtherRow S))) → others_as means primes ≡ None
    → primes ≡ None
others_as_none means None e = refl
others_as_none means (Some others) e = cc

module _ {S V : Type 0} {valid : S → Type 0} {printed : S → List ℕ} {at : FrontReading S}
    (law : ReadsFrontPrinted valid printed at) (means : S → V) (may : List ℕ → Type 0) where
  -- Nothing is behind the eight numbers of a key of two primes.
  nothing_behind_two_primes : {Listed : List ℕ → Type 0} (s : PrivateRow S) → others_in s ≡ None
      → PrivateIsValid valid s
      → (c : List ℕ) → c ≡ private_printed printed s → length c ≤ limit
      → AllocatesBehind (FrontPrints valid printed means) (AllocatesAtFront (Tlv 48 Listed)) c → ⊥
  nothing_behind_two_primes s two ok c is few (front, (x, y, (f, m, right, begun), begins, joined)) =
      let mine : c ≡ front_printed printed (private_front_parts s) ++ [] =
      is ∙ ap (λ o. front_printed printed (private_front_parts s) ++ others_printed printed o) two in
      let theirs : c ≡ front_printed printed f ++ y = joined ∙ ap (λ l. l ++ y) begun in
      let one =
      prints_one (front_law law) f (private_front_parts s) y [] right (read_valid law s ok).0
      (omega (arith, ap length theirs)) (sym theirs ∙ mine) in
      omega (
        arith,
        tlv_not_empty begins.0 begins.3,
        ap length begins.2,
        length-append begins.0 begins.1,
        ap length one.1,
      )

  -- So reading it needs no memory, where its numbers need none.
  pub two_primes_ask : (key : PrivateRow V) → others_in key ≡ None → ((b : List ℕ) → may b → ⊥)
      → (whole : List ℕ) → PrivateSpells valid printed means key whole
      → AllocatesAtFront (Tlv 48 (AllocatesForKey valid printed means may)) whole → ⊥
  two_primes_ask key two none whole (few, (s, m, ok, is)) (b, rest, e, q) =
      let contents = private_printed printed s in
      let within : length (tlv 48 contents) ≤ limit = omega (arith, ap length is) in
      let p : Tlv 48 (λ c. c ≡ contents) (tlv 48 contents) = tlv_made 48 contents refl within in
      let t = tlv_split b rest (tlv 48 contents) [] q p (sym e ∙ is ∙ sym (append-nil (tlv 48 contents))) in
      let none_there : others_in s ≡ None =
      others_as_none means (others_in s) (ap (λ (k : PrivateRow V). others_in k) m ∙ two) in
      let fits : length t.3 ≤ limit = omega (arith, tlv_fit 48 contents, ap length t.5) in
      ⊎_elim (λ w. numbers_ask_none none t.3 w) (λ w. nothing_behind_two_primes s none_there ok t.3 t.5 fits w) t.4

  -- So such an encoding isn't rejected.
  pub two_primes_rejected : (key : PrivateRow V) → others_in key ≡ None → ((b : List ℕ) → may b → ⊥)
      → (whole : List ℕ) (kind : ErrorKind) → PrivateSpells valid printed means key whole
      → NoValueOrMemory kind (AllocatesAtFront (Tlv 48 (AllocatesForKey valid printed means may)) whole)
      ((v : PrivateRow V) → PrivateSpells valid printed means v whole → ⊥) → ⊥
  two_primes_rejected key two none whole kind spelled (inl w) = two_primes_ask key two none whole spelled w.1
  two_primes_rejected key two none whole kind spelled (inr w) = w.1 key spelled

-- A borrowed key of two primes, in the words of `Statement.antt`.
pub two_primes_read : (key : standard.PrivateKey) → key.other_primes ≡ None → (bytes : List ℕ)
    → standard.PrivateKeyEncoding key bytes → (may : List ℕ → Type 0) → ((b : List ℕ) → may b → ⊥) → (kind : ErrorKind)
    → NoValueOrMemory kind (AllocatesAtFront (Tlv 48 (AllocatesForKey AnyNumber integer (λ n. n) may)) bytes)
    ((v : PrivateRow ℕ) → PrivateSpells AnyNumber integer (λ n. n) v bytes → ⊥) → ⊥
two_primes_read key two bytes encoded may none kind =
    two_primes_rejected integer_law (λ n. n) may (private_from key) (ap (option_map (map other_from)) two) none
    bytes kind (private_spells key bytes encoded)

-- What the bytes that need memory begin with, told otherwise.
module _ {Asks Needs : List ℕ → Type 0} (told : (c : List ℕ) → Asks c → Needs c) where
  pub asks_as : (encoding : List ℕ) → AllocatesAtFront (Tlv 48 Asks) encoding → AllocatesAtFront (Tlv 48 Needs) encoding
  asks_as encoding (b, rest, e, p) = (b, rest, e, tlv_recast b p (told p.contents p.holds))

  pub faulty_as : (kind : ErrorKind) (encoding : List ℕ) {fault : Type 0}
      → FaultOrMemory kind (AllocatesAtFront (Tlv 48 Asks) encoding) fault
      → FaultOrMemory kind (AllocatesAtFront (Tlv 48 Needs) encoding) fault
  faulty_as kind encoding (inl w) = inl (w.0, asks_as encoding w.1)
  faulty_as kind encoding (inr f) = inr f

-- A number that is borrowed needs none, so a borrowed key needs it for other primes alone.
abbrev pub BorrowedNumberAllocates : List ℕ → Type 0
BorrowedNumberAllocates = Tlv 2 (λ _. ⊥)

pub borrowed_ask : (b : List ℕ) → BorrowedNumberAllocates b → ⊥
borrowed_ask b t = t.holds

-- A number, and parts behind it that need none.
none_in_parts : {rest : List ℕ → Type 0} → ((c : List ℕ) → rest c → ⊥) → (c : List ℕ)
    → AllocatesInParts NumberPrints BorrowedNumberAllocates rest c → ⊥
none_in_parts none = parts_ask_as_each NumberPrints borrowed_ask none

-- Both numbers of a public key.
pub none_in_public : (c : List ℕ)
    → AllocatesInParts NumberPrints BorrowedNumberAllocates
    (AllocatesInParts NumberPrints BorrowedNumberAllocates (λ _. ⊥)) c → ⊥
none_in_public = none_in_parts (none_in_parts (λ _ w. w))

-- Another prime.
none_in_other : (c : List ℕ) → AllocatesInOther NumberPrints BorrowedNumberAllocates c → ⊥
none_in_other = none_in_parts none_in_public

-- Where the list of other primes needs memory, it isn't empty.
others_begin : (c : List ℕ) → AllocatesInOthers AnyNumber integer (λ n. n) BorrowedNumberAllocates c
    → AllocatesAtFront (Tlv 48 (BeginsWithEncoding (OtherPrints AnyNumber integer (λ n. n)))) c
others_begin = asks_as (λ c. ⊎_elim (λ w. w) (λ w. let t = w.3 in absurd (none_in_other t.contents t.holds)))

pub borrowed_key_asks : (c : List ℕ) → AllocatesForKey AnyNumber integer (λ n. n) BorrowedNumberAllocates c
    → OthersFollow c
borrowed_key_asks c (inl w) = absurd (numbers_ask_none borrowed_ask c w)
borrowed_key_asks c (inr (front, (x, y, t, others, is))) = (front, (x, y, t, others_begin y others, is))

-- A number that is owned is copied, so an owned key needs memory as soon as its first number is there.
abbrev CopiedNumberAllocates : List ℕ → Type 0
CopiedNumberAllocates = Tlv 2 (λ c. (n : ℕ) × (c ≡ number_contents n))

-- What is copied is a number.
begins_copied : (c : List ℕ) → AllocatesAtFront CopiedNumberAllocates c → BeginsWithEncoding NumberPrints c
begins_copied c (b, rest, e, t) =
    let number : Tlv 2 (λ c. c ≡ number_contents t.holds.0) b = tlv_recast b t t.holds.1 in
    (b, rest, e, (t.holds.0, (t.holds.0, refl, tt, tlv_is 2 (number_contents t.holds.0) b (λ c p. p) number)))

-- The first of some numbers.
pub owned_parts_ask : {rest : List ℕ → Type 0} (c : List ℕ) → AllocatesInParts NumberPrints CopiedNumberAllocates rest c
    → BeginsWithEncoding NumberPrints c
owned_parts_ask c (inl w) = begins_copied c w
owned_parts_ask c (inr (v, (x, y, t, w, is))) = (x, y, is, (v, t))

-- The numbers behind the first.
abbrev numbers_after_first : List ℕ → List ℕ
numbers_after_first [] = []
numbers_after_first (n ∷ ns) = ns

-- Behind the version.
pub owned_key_asks : (c : List ℕ) → AllocatesForKey AnyNumber integer (λ n. n) CopiedNumberAllocates c
    → AllocatesBehind VersionPrints (BeginsWithEncoding NumberPrints) c
owned_key_asks c (inl (inl w)) = absurd w.3.holds
owned_key_asks c (inl (inr (n, (x, y, t, w, is)))) = (n, (x, y, t, owned_parts_ask y w, is))
owned_key_asks c (inr (front, (x, y, (f, m, right, begun), others, is))) =
    let number = f.1.0 in
    let behind = concat (map integer (numbers_after_first (key_numbers f.1))) in (
      f.0,
      (
        integer f.0,
        integer number ++ (behind ++ y),
        (f.0, refl, right.0, refl),
        (integer number, behind ++ y, refl, (number, (number, refl, tt, refl))),
        is ∙ ap (λ l. l ++ y) begun ∙ append_assoc (integer f.0) (integer number ++ behind) y
            ∙ ap (λ l. integer f.0 ++ l) (append_assoc (integer number) behind y),
      ),
    )
