-- BIT STRINGs of whole octets are read, and nothing else.
use Rattle.std.proofs.Common.{ℕ, List, [], ◌∷◌, ◌≡◌, ◌==◌, ◌∙◌, Ok, Err, inl, inr, refl, ap, arith, ⊎_elim, Result}
use Rattle.std.proofs.lemmas.Bool.Decides.{nat_tests}
use Rattle.der_core.specs.declared.error.ErrorKind.{ErrorKind}
use Rattle.der_core.specs.declared.error.ErrorKind.TheVariants.{Length, Value}
use Rattle.der_core.specs.BitString.{AllocatesBehindZero, behind_zero, no_unused_bits, whole_octets}
use Rattle.der_core.specs.Laws.LengthReading.{cond_cases, ok_pair}
use Rattle.der_core.specs.Laws.Printed.Items.{ok_meant}
use Rattle.der_core.specs.Laws.Readings.{bind_err, bind_ok}
use Rattle.der_core.specs.Printed.{ReadsAlike, ReadsPrinted, WritesShortest}
use Rattle.der_core.specs.Reading.{TellsOfBytes}
use Rattle.der_core.specs.Readings.{Reading, ◌>>=◌}
use Rattle.der_core.specs.Tags.{bit_string_tag}

no_unused_bits_is : (c rest : List ℕ) (u : Unit {0}) → no_unused_bits c ≡ Ok (u, rest) → c ≡ 0 ∷ rest
no_unused_bits_is [] rest u e = let never = e in cc
no_unused_bits_is (x ∷ xs) rest u e =
    ⊎_elim
    (λ w.
    let zero : x ≡ 0 = grind (arith, nat_tests, w.0) in
    ap (λ y. y ∷ xs) zero ∙ ap (λ r. 0 ∷ r) (ok_pair tt u xs rest w.1).1)
    (λ w. let never = w.1 in cc) (cond_cases (x == 0) _ _ _ e)

no_unused_bits_tells : (c : List ℕ) (k : ErrorKind) → no_unused_bits c ≡ Err k → TellsOfBytes k
no_unused_bits_tells [] k e =
    let same : Length bit_string_tag ≡ k = let q = e in cc in (λ no. cc, λ no. cc, λ no. cc)
no_unused_bits_tells (x ∷ xs) k e =
    ⊎_elim (λ w. let never = w.1 in cc)
    (λ w. let same : Value bit_string_tag ≡ k = let q = w.1 in cc in (λ no. cc, λ no. cc, λ no. cc))
    (cond_cases (x == 0) _ _ _ e)

pub behind_zero_law : {S : Type 0} {Is : S → Type 0} {printed : S → List ℕ} {read : Reading S}
    → ReadsPrinted Is printed read → ReadsPrinted Is (whole_octets printed) (behind_zero read)
behind_zero_law {read = read} law = record {
  gives = λ c s bytes e.
      let p = bind_ok (no_unused_bits c) (λ p. read p.1) e in
      let split = no_unused_bits_is c p.0.1 p.0.0 p.1 in
      let are = rw split at bytes in
      let h = law.gives p.0.1 s are.1 p.2 in
      (h.0, split ∙ ap (λ o. 0 ∷ o) h.1);
  takes = λ s ok few. law.takes s ok (omega (arith, few));
  tells = λ c k e.
      ⊎_elim (no_unused_bits_tells c k) (λ p. law.tells p.0.1 k p.2)
      (bind_err (no_unused_bits c) (λ p. read p.1) e);
}

pub behind_zero_alike : {S V : Type 0} {read : Reading S} {means : S → V} {old : Reading V}
    → ReadsAlike read means old → ReadsAlike (behind_zero read) means (behind_zero old)
behind_zero_alike {read = read} {means} {old} law = record { same = λ c. go (no_unused_bits c) }
  where
    go : (r : Result (Unit {0} × List ℕ) ErrorKind)
        → ((r >>= λ p. read p.1) >>= ok_meant means) ≡ (r >>= λ p. old p.1)
    go (Ok p) = law.same p.1
    go (Err k) = refl

pub behind_zero_shortest : {S V : Type 0} {Is : S → Type 0} {printed : S → List ℕ} {means : S → V} {written : V → S}
    → WritesShortest Is printed means written → WritesShortest Is (whole_octets printed) means written
behind_zero_shortest law = record {
  back = law.back;
  valid = law.valid;
  least = λ s ok few. elim (law.least s ok (omega (arith, few))) [ inl e ↦ inl e | inr l ↦ inr (omega (arith, l)) ];
}

pub behind_zero_asks_as_contents : {may_allocate : List ℕ → Type 0} {Asked : Type 0}
    → ((o : List ℕ) → may_allocate o → Asked) → (c : List ℕ) → AllocatesBehindZero may_allocate c → Asked
behind_zero_asks_as_contents contents c asks = contents asks.0 asks.2
