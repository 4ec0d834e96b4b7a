-- Reading by functions: a part that is there if its tag is next.
use Rattle.std.proofs.Common.{ℕ, true, false, List, [], ◌∷◌, ◌++◌, ◌≡◌, ◌==◌, ◌⊎◌, ◌≤◌, length, refl, sym, ap, subst, ◌∙◌, arith, inl, inr, ⊎_elim, append_assoc, Ok, Err, Option, Some, None}
use Rattle.std.proofs.lemmas.Bool.Decides.{nat_tests}
use Rattle.der_core.specs.declared.error.ErrorKind.{ErrorKind}
use Rattle.der_core.specs.Laws.LengthReading.{ok_pair, cond_cases}
use Rattle.der_core.specs.Laws.Numbers.{cons_injective}
use Rattle.der_core.specs.Laws.Readings.{bind_err, bind_ok}
use Rattle.der_core.specs.Length.{limit}
use Rattle.der_core.specs.Encodings.{AreBytes}
use Rattle.der_core.specs.Parts.{IsNext, OptionalRead}
use Rattle.der_core.specs.Reading.{TellsOfBytes}
use Rattle.der_core.specs.Readings.{FrontReading, ReadsBy, ReadsFronts, ◌>>=◌, is_next, optional_front}
use Rattle.der_core.specs.Tlv.{Tlv}

-- The octet that is next.
pub is_next_true : (t : ℕ) (i : List ℕ) → IsNext t i → is_next t i ≡ true
is_next_true t [] (rest, e) = cc
is_next_true t (x ∷ xs) (rest, e) = let same : x ≡ t = (cons_injective e).0 in grind (arith, nat_tests, same)

pub is_next_false : (t : ℕ) (i : List ℕ) → (IsNext t i → ⊥) → is_next t i ≡ false
is_next_false t [] other = refl
is_next_false t (x ∷ xs) other =
    ⊎_elim (λ w. let same : x ≡ t = grind (arith, nat_tests, w.0) in absurd (other (xs, ap (λ z. z ∷ xs) same)))
    (λ w. w.0) (cond_cases (x == t) true false _ refl)

pub is_next_false_only : (t : ℕ) (i : List ℕ) → is_next t i ≡ false → IsNext t i → ⊥
is_next_false_only t i isnt next = let yes = is_next_true t i next in let never : true ≡ false = sym yes ∙ isnt in cc

pub tlv_front_is_next : (t : ℕ) {P : List ℕ → Type 0} (b rest i : List ℕ) → Tlv t P b → i ≡ b ++ rest → IsNext t i
tlv_front_is_next t b rest i p is = (
  p.octets ++ (p.contents ++ rest),
  is ∙ ap (λ x. x ++ rest) p.written ∙ append_assoc (t ∷ p.octets) p.contents rest,
)

module _ {V : Type 0} (t : ℕ) (at : FrontReading V) (i : List ℕ) where
  pub optional_is : (o : Option V) (rest : List ℕ) → optional_front t at i ≡ Ok (o, rest)
      → ((o ≡ None) × (i ≡ rest)) ⊎ ((v : V) × (o ≡ Some v) × (at i ≡ Ok (v, rest)))
  optional_is o rest e =
      ⊎_elim
      (λ w.
      let s = bind_ok (at i) _ w.1 in
      let q = ok_pair (Some s.0.0) o s.0.1 rest s.2 in
      inr (s.0.0, sym q.0, s.1 ∙ ap (λ r. Ok (s.0.0, r)) q.1))
      (λ w. let q = ok_pair None o i rest w.1 in inl (sym q.0, q.1))
      (cond_cases (is_next t i) _ _ _ e)

  pub optional_takes : (v : V) (rest : List ℕ) → is_next t i ≡ true → at i ≡ Ok (v, rest)
      → optional_front t at i ≡ Ok (Some v, rest)
  optional_takes v rest first e = rw first (ap (λ r. r >>= λ p. Ok (Some p.0, p.1)) e)

  pub optional_tells : ((k : ErrorKind) → at i ≡ Err k → TellsOfBytes k) → (k : ErrorKind)
      → optional_front t at i ≡ Err k
      → TellsOfBytes k
  optional_tells tells k e =
      ⊎_elim (λ w. ⊎_elim (tells k) (λ s. let no = s.2 in cc) (bind_err (at i) _ w.1)) (λ w. let no = w.1 in cc)
      (cond_cases (is_next t i) _ _ _ e)

-- A part that is known by its first octet, and what is behind it.
module _ {V : Type 0} (t : ℕ) {encoding : V → List ℕ → Type 0} {at : FrontReading V} (law : ReadsFronts encoding at)
    (starts : (v : V) (b rest i : List ℕ) → encoding v b → i ≡ b ++ rest → IsNext t i) where
  abbrev OptionalPartRead : List ℕ → Option V → List ℕ → Type 0
  OptionalPartRead = OptionalRead t encoding

  optional_part_read_gives : (i rest : List ℕ) (o : Option V) → AreBytes i → optional_front t at i ≡ Ok (o, rest)
      → OptionalPartRead i o rest
  optional_part_read_gives i rest o b e =
      ⊎_elim
      (λ w.
      let s = bind_ok (at i) _ w.1 in
      let q = ok_pair (Some s.0.0) o s.0.1 rest s.2 in
      let x = law.gives i s.0.1 s.0.0 b s.1 in
      subst (λ o. OptionalPartRead i o rest) q.0 (x.0, rest, x.2, refl, x.1 ∙ ap (λ r. x.0 ++ r) q.1))
      (λ w. let q = ok_pair None o i rest w.1 in
      subst (λ o. OptionalPartRead i o rest) q.0 (is_next_false_only t i w.0, sym q.1))
      (cond_cases (is_next t i) _ _ _ e)

  optional_part_read_takes : (i rest : List ℕ) (o : Option V) → length i ≤ limit → OptionalPartRead i o rest
      → optional_front t at i ≡ Ok (o, rest)
  optional_part_read_takes i rest None within (not_next, same) =
      let no : is_next t i ≡ false = is_next_false t i not_next in rw (no, same) refl
  optional_part_read_takes i rest (Some v) within (b, more, p, same, split) =
      let yes : is_next t i ≡ true = is_next_true t i (starts v b more i p split) in
      optional_takes t at i v rest yes (law.takes i b rest v within (split ∙ ap (λ r. b ++ r) same) p)

  pub optional_reads : ReadsBy (OptionalRead t encoding) (optional_front t at)
  optional_reads = record {
    gives = optional_part_read_gives;
    takes = optional_part_read_takes;
    tells = λ i k e. optional_tells t at i (law.tells i) k e;
  }
