-- INTEGER: one number for each encoding, one encoding for each number, how it is read. Equality of what values mean.
use Rattle.std.proofs.Common.{ℕ, List, [], ◌∷◌, ◌≡◌, ◌<◌, ◌≤◌, refl, sym, ap, ◌∙◌, arith, inl, inr, slice_index, nat_lt, true, false, length, Result, Ok, Err, ◌==◌, Bool, ◌&&◌, eqb, Decides, option_map, bytes_eq, Option, Some, None, eqb-true, eq-eqb}
use Rattle.std.specs.Int.Digits.{number_from_digits}
use Rattle.der_core.specs.Encodings.{HasAtMostOne}
use Rattle.der_core.specs.Integer.{IsCanonical, IntegerContents, HoldsNumber, integer_contents, SmallContents}
use Rattle.der_core.specs.Laws.LengthReading.{are_bytes, cond_cases, value_error_tells}
use Rattle.std.proofs.lemmas.Bool.{cases_lt}
use Rattle.std.proofs.lemmas.Bool.Decides.{nat_tests}
use Rattle.der_core.specs.Laws.Numbers.{base256_same, base256_pos}
use Rattle.der_core.specs.Reading.{TellsOfBytes}
use Rattle.der_core.specs.IntegerReading.{integer_of, as_small, small_of}
use Rattle.der_core.specs.declared.error.ErrorKind.{ErrorKind}
use Rattle.der_core.specs.declared.error.ErrorKind.TheVariants as kind
use Rattle.der_core.specs.Tags.{integer_tag}
use Rattle.std.specs.Option.{option_eq}
use Rattle.std.proofs.lemmas.Slice.Eq.{bytes_eq-Decides}

pub contents_at_most_one : (bytes : List ℕ) → HasAtMostOne (IntegerContents bytes)
contents_at_most_one n x y (p, inl a) (q, inl b) = a.1 ∙ sym b.1
contents_at_most_one n x y (p, inl a) (q, inr b) = absurd (omega arith)
contents_at_most_one n x y (p, inr a) (q, inl b) = absurd (omega arith)
contents_at_most_one n x y (p, inr a) (q, inr b) = a.1 ∙ sym b.1

-- A number has one list of canonical bytes.
pub canonical_same : (x y : List ℕ) → IsCanonical x → IsCanonical y
    → number_from_digits 256 x ≡ number_from_digits 256 y → x ≡ y
canonical_same x y (inl p) (inl q) e = p ∙ sym q
canonical_same x y (inl p) (inr q) e =
    let z : number_from_digits 256 x ≡ 0 = ap (number_from_digits 256) p in
    let k : 0 < number_from_digits 256 y =
    base256_pos (number_from_digits 256 y) y (record { bytes = q.0; value = refl; no_leading_zero = q.1 }) in
    absurd (omega arith)
canonical_same x y (inr p) (inl q) e =
    let z : number_from_digits 256 y ≡ 0 = ap (number_from_digits 256) q in
    let k : 0 < number_from_digits 256 x =
    base256_pos (number_from_digits 256 x) x (record { bytes = p.0; value = refl; no_leading_zero = p.1 }) in
    absurd (omega arith)
canonical_same x y (inr p) (inr q) e =
    base256_same (number_from_digits 256 y) x y (record { bytes = p.0; value = e; no_leading_zero = p.1 })
    (record { bytes = q.0; value = refl; no_leading_zero = q.1 })

-- What a type holds of a number's bytes.
pub holds_canonical : (bytes : List ℕ) → HoldsNumber bytes → IsCanonical bytes
holds_canonical [] h = absurd (omega (arith, h.0))
holds_canonical (x ∷ []) h = elim (cases_lt 0 x) [
  | inl p ↦ inr ((h.2 0, tt), p)
  | inr p ↦ let z : x ≡ 0 = omega arith in inl (rw z refl)
]
holds_canonical (x ∷ y ∷ ys) h = inr (are_bytes (x ∷ y ∷ ys) h.2, h.1 (omega arith))

-- What is written.
pub written_small : (bytes : List ℕ) → slice_index bytes 0 < 128 → integer_contents bytes ≡ bytes
written_small bytes h = let e : nat_lt (slice_index bytes 0) 128 ≡ true = grind (arith, nat_tests) in rw e refl

pub written_large : (bytes : List ℕ) → 128 ≤ slice_index bytes 0 → integer_contents bytes ≡ 0 ∷ bytes
written_large bytes h = let e : nat_lt (slice_index bytes 0) 128 ≡ false = grind (arith, nat_tests) in rw e refl

pub integer_relates : (bytes : List ℕ) → IsCanonical bytes → IntegerContents bytes (integer_contents bytes)
integer_relates bytes p = elim (cases_lt (slice_index bytes 0) 128) [
  | inl h ↦ (p, inl (h, written_small bytes h))
  | inr h ↦ (p, inr (h, written_large bytes h))
]

-- == INTEGER from 0 to 255 ==

-- The byte of a number below 256 is its canonical bytes.
pub byte_canonical : (n : ℕ) → n < 256 → IsCanonical (n ∷ [])
byte_canonical n l = elim (cases_lt 0 n) [
  | inl h ↦ inr ((l, tt), h)
  | inr h ↦ let z : n ≡ 0 = omega arith in inl (ap (λ k. k ∷ []) z)
]

pub byte_held : (n : ℕ) → n < 256 → HoldsNumber (n ∷ [])
byte_held n l = (omega arith, λ more. absurd (omega (arith, more)), λ i. grind (arith, l))

pub byte_number : (n : ℕ) → number_from_digits 256 (n ∷ []) ≡ n
byte_number n = omega arith

-- Canonical bytes of a number below 256 are one byte.
pub one_byte : (n : ℕ) (bytes : List ℕ) → n < 256 → IsCanonical bytes → number_from_digits 256 bytes ≡ n
    → bytes ≡ n ∷ []
one_byte n bytes l p e = canonical_same bytes (n ∷ []) p (byte_canonical n l) (e ∙ sym (byte_number n))

-- What is read of the contents of a number.
pub integer_of_takes : (bytes c : List ℕ) → IntegerContents bytes c → integer_of c ≡ Ok bytes
integer_of_takes [] c (p, inl i) = absurd (none p)
  where
    none : IsCanonical [] → ⊥
    none (inl e) = cc
    none (inr h) = omega (arith, h.1)
integer_of_takes [] c (p, inr i) = absurd (omega (arith, i.0))
integer_of_takes (x ∷ []) c (p, inl i) =
    let less : nat_lt x 128 ≡ true = grind (arith, nat_tests, i.0) in
    rw (i.1, less) refl
integer_of_takes (x ∷ y ∷ ys) c (inl e, inl i) = absurd (omega (arith, ap length e))
integer_of_takes (x ∷ y ∷ ys) c (inr h, inl i) =
    let less : nat_lt x 128 ≡ true = grind (arith, nat_tests, i.0) in
    let other : (x == 0) ≡ false = grind (arith, nat_tests, h.1) in
    rw (i.1, less, other) refl
integer_of_takes (x ∷ xs) c (p, inr i) =
    let more : nat_lt x 128 ≡ false = grind (arith, nat_tests, i.0) in
    rw (i.1, more) refl

pub small_of_takes : (n : ℕ) (c : List ℕ) → SmallContents n c → small_of c ≡ Ok n
small_of_takes n c (l, (bytes, e, i)) =
    let test : nat_lt (number_from_digits 256 bytes) 256 ≡ true = rw e (grind (arith, nat_tests)) in
    rw (integer_of_takes bytes c i, test, e) refl

-- The errors are about the bytes.
as_small_tells : (k : ErrorKind) (r : Result (List ℕ) ErrorKind) → ((d : ErrorKind) → r ≡ Err d → TellsOfBytes d)
    → as_small r ≡ Err k → TellsOfBytes k
as_small_tells k (Err d) h e = let same : d ≡ k = cc in h k (ap (λ x. Err x) same)
as_small_tells k (Ok bytes) h e = elim (cond_cases (nat_lt (number_from_digits 256 bytes) 256) _ _ _ e) [
  | inl w ↦ let no = w.1 in cc
  | inr w ↦ value_tells k w.1
]
  where
    value_tells : (k : ErrorKind) → ◌≡◌ {A = Result ℕ ErrorKind} (Err (kind.Value integer_tag)) (Err k) → TellsOfBytes k
    value_tells k e = let same : kind.Value integer_tag ≡ k = cc in value_error_tells (sym same)

pub integer_tells : (c : List ℕ) (k : ErrorKind) → integer_of c ≡ Err k → TellsOfBytes k
integer_tells [] k e = let same : kind.Length integer_tag ≡ k = cc in (λ no. cc, λ no. cc, λ no. cc)
integer_tells (x ∷ []) k e = elim (cond_cases (nat_lt x 128) _ _ _ e) [
  | inl w ↦ let no = w.1 in cc
  | inr w ↦ let is = w.1 in let same : kind.Value integer_tag ≡ k = cc in value_error_tells (sym same)
]
integer_tells (x ∷ y ∷ ys) k e = elim (cond_cases (nat_lt x 128) _ _ _ e) [
  | inl w ↦ elim (cond_cases (x == 0) _ _ _ w.1) [
    | inl v ↦ elim (cond_cases (nat_lt y 128) _ _ _ v.1) [
      | inl u ↦ let is = u.1 in let same : kind.Noncanonical integer_tag ≡ k = cc in (λ no. cc, λ no. cc, λ no. cc)
      | inr u ↦ let no = u.1 in cc
    ]
    | inr v ↦ let no = v.1 in cc
  ]
  | inr w ↦ let is = w.1 in let same : kind.Value integer_tag ≡ k = cc in value_error_tells (sym same)
]

pub small_tells : (c : List ℕ) (k : ErrorKind) → small_of c ≡ Err k → TellsOfBytes k
small_tells c k e = as_small_tells k (integer_of c) (integer_tells c) e

-- Equality of what values mean, part by part.
pub number_decides : (m n : ℕ) → Decides (eqb m n) (m ≡ n)
number_decides m n = (λ e. eqb-true m n e, λ e. eq-eqb m n e)

pub bytes_decide : (x y : List ℕ) → Decides (bytes_eq x y) (x ≡ y)
bytes_decide x y = bytes_eq-Decides x y

and_true : (a b : Bool) → (a && b) ≡ true → (a ≡ true) × (b ≡ true)
and_true true true e = (refl, refl)
and_true true false e = cc
and_true false b e = cc

-- Two parts that make up the whole.
pub and_decides : {A B C : Type 0} {a b : Bool} → Decides a A → Decides b B → (A → B → C) → (C → A) → (C → B)
    → Decides (a && b) C
and_decides {A} {B} {C} {a} {b} p q make first second = (
  λ e. let w = and_true a b e in make (p.0 w.0) (q.0 w.1),
  λ e. rw (p.1 (first e), q.1 (second e)) refl,
)

some_injective : {V : Type 0} (v w : V) → ◌≡◌ {A = Option V} (Some v) (Some w) → v ≡ w
some_injective v w e = cc

pub option_decides : {P V : Type 0} (value : P → V) (E : P → P → Bool)
    → ((a b : P) → Decides (E a b) (value a ≡ value b))
    → (p q : Option P) → Decides (option_eq E p q) (option_map value p ≡ option_map value q)
option_decides value E d None None = (λ e. refl, λ e. refl)
option_decides value E d None (Some y) = (λ e. cc, λ e. cc)
option_decides value E d (Some x) None = (λ e. cc, λ e. cc)
option_decides value E d (Some x) (Some y) =
    (λ e. ap (λ v. Some v) ((d x y).0 e), λ e. (d x y).1 (some_injective (value x) (value y) e))
