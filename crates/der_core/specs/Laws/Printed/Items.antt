-- SEQUENCE OF; what the laws of a type say of its values; steps of reading.
use Rattle.std.proofs.Common.{ℕ, zero, suc, List, [], ◌∷◌, ◌++◌, ◌≡◌, ◌<◌, ◌≤◌, length, map, refl, sym, subst, ap, ◌∙◌, arith, ⊎_elim, length-append, Ok, Err, inl, inr, Result, Option, Some}
use Rattle.std.specs.List.{AllByRecursion, concat}
use Rattle.der_core.specs.Encodings.{AreBytes}
use Rattle.der_core.specs.Laws.Readings.{back_bytes, bind_err, bind_ok, made_tells, ok_injective}
use Rattle.der_core.specs.Laws.LengthReading.{ok_pair, trailing_error_tells}
use Rattle.der_core.specs.Length.{limit}
use Rattle.der_core.specs.Reading.{TellsOfBytes}
use Rattle.der_core.specs.Readings.{FrontReading, items, items_within, made, ◌>>=◌, Reading, ReadsContents, ReadsFronts}
use Rattle.der_core.specs.declared.error.ErrorKind.{ErrorKind}
use Rattle.der_core.specs.declared.error.ErrorKind.TheVariants.{TrailingData}
use Rattle.der_core.specs.Printed.{ReadsFrontPrinted, ReadsPrinted, Prints, ReadsAlike, ReadsFrontAlike, WritesShortest}

module _ {V : Type 0} {Is : V → Type 0} {printed : V → List ℕ} {at : FrontReading V}
    (law : ReadsFrontPrinted Is printed at)
    (some : (v : V) → 0 < length (printed v)) where
  abbrev items_printed : List V → List ℕ
  items_printed vs = concat (map printed vs)

  items_within_gives : (n : ℕ) (c : List ℕ) (vs : List V) → AreBytes c → items_within n at c ≡ Ok vs
      → AllByRecursion Is vs × (c ≡ items_printed vs)
  items_within_gives n [] vs b e =
      subst (λ us. AllByRecursion Is us × ([] ≡ items_printed us)) (ok_injective e) (tt, refl)
  items_within_gives zero (x ∷ xs) vs b e = cc
  items_within_gives (suc n) (x ∷ xs) vs b e =
      let s = bind_ok (at (x ∷ xs)) _ e in
      let u = bind_ok (items_within n at s.0.1) _ s.2 in
      let p = law.gives (x ∷ xs) s.0.1 s.0.0 b s.1 in
      let q = items_within_gives n s.0.1 u.0 (back_bytes (printed s.0.0) s.0.1 (subst AreBytes p.1 b)) u.1 in
      subst (λ us. AllByRecursion Is us × ((x ∷ xs) ≡ items_printed us)) (ok_injective u.2)
      ((p.0, q.0), p.1 ∙ ap (λ z. printed s.0.0 ++ z) q.1)

  items_within_takes : (vs : List V) (n : ℕ) (c : List ℕ) → c ≡ items_printed vs → length c ≤ n → length c ≤ limit
      → AllByRecursion Is vs
      → items_within n at c ≡ Ok vs
  items_within_takes [] n c is l w ok = ap (items_within n at) is
  items_within_takes (v ∷ vs) n [] is l w ok =
      absurd (omega (arith, some v, ap length is, length-append (printed v) (items_printed vs)))
  items_within_takes (v ∷ vs) zero (z ∷ zs) is l w ok = absurd (omega (arith, l))
  items_within_takes (v ∷ vs) (suc n) (z ∷ zs) is l w ok =
      let both = length-append (printed v) (items_printed vs) in
      ap (λ r. r >>= λ p. made (λ vs. p.0 ∷ vs) (items_within n at) p.1)
      (ap at is ∙ law.takes v (items_printed vs) ok.0 (omega (arith, w, ap length is)))
      ∙ ap (λ r. r >>= λ vs. Ok (v ∷ vs))
      (items_within_takes vs n (items_printed vs) refl (omega (arith, l, some v, ap length is, both))
      (omega (arith, w, ap length is, both))
      ok.1)

  items_within_tells : (n : ℕ) (c : List ℕ) (k : ErrorKind) → items_within n at c ≡ Err k → TellsOfBytes k
  items_within_tells n [] k e = cc
  items_within_tells zero (x ∷ xs) k e = let same : TrailingData ≡ k = cc in trailing_error_tells (sym same)
  items_within_tells (suc n) (x ∷ xs) k e =
      ⊎_elim (law.tells (x ∷ xs) k)
      (λ s. made_tells (λ vs. s.0.0 ∷ vs) (items_within n at s.0.1) (items_within_tells n s.0.1 k) s.2)
      (bind_err (at (x ∷ xs)) _ e)

  pub items_law : ReadsPrinted (AllByRecursion Is) (λ vs. concat (map printed vs)) (items at)
  items_law = record {
    gives = λ c vs b e. items_within_gives (length c) c vs b e;
    takes = λ vs ok few. items_within_takes vs (length (items_printed vs)) (items_printed vs) refl (omega arith) few ok;
    tells = λ c k e. items_within_tells (length c) c k e;
  }

-- == What the laws of a type say of its values: what is read, what is written, that each has one encoding ==

-- A type's function reads the contents of its values and no others, and its faults are about the bytes.
pub reading_reads : {S V : Type 0} {valid : S → Type 0} {printed : S → List ℕ} {spelling : Reading S} {means : S → V}
    {read : Reading V} → ReadsPrinted valid printed spelling → ReadsAlike spelling means read
    → ReadsContents (Prints valid printed means) read
reading_reads {spelling = spelling} {means} law alike = record {
  gives = λ c v bytes e.
      let s = bind_ok (spelling c) _ (alike.same c ∙ e) in
      let g = law.gives c s.0 bytes s.1 in
      (s.0, ok_injective s.2, g.0, g.1);
  takes = λ c v few p.
      let (s, is, ok, same) = p in
      sym (alike.same c)
      ∙ ap (λ r. r >>= λ s. Ok (means s)) (ap spelling same ∙ law.takes s ok (omega (arith, few, ap length same)))
      ∙ ap (λ v. Ok v) is;
  tells = λ c k e. elim (bind_err (spelling c) _ (alike.same c ∙ e)) [
    | inl p ↦ law.tells c k p
    | inr s ↦ let never = s.2 in cc
  ];
}

-- The same of encodings at the front of bytes.
pub front_reading_reads : {S V : Type 0} {valid : S → Type 0} {printed : S → List ℕ} {spelling : FrontReading S}
    {means : S → V}
    {at : FrontReading V} → ReadsFrontPrinted valid printed spelling → ReadsFrontAlike spelling means at
    → ReadsFronts (Prints valid printed means) at
front_reading_reads {printed = printed} {spelling} {means} law alike = record {
  gives = λ i rest v bytes e.
      let s = bind_ok (spelling i) _ (alike.same i ∙ e) in
      let end = ok_pair (means s.0.0) v s.0.1 rest s.2 in
      let g = law.gives i s.0.1 s.0.0 bytes s.1 in
      (printed s.0.0, g.1 ∙ ap (λ r. printed s.0.0 ++ r) end.1, (s.0.0, end.0, g.0, refl));
  takes = λ i b rest v few is p.
      let (s, m, ok, same) = p in
      let all = is ∙ ap (λ x. x ++ rest) same in
      sym (alike.same i)
      ∙ ap (λ r. r >>= λ p. Ok (means p.0, p.1))
      (ap spelling all ∙ law.takes s rest ok (omega (arith, few, ap length all)))
      ∙ ap (λ v. Ok (v, rest)) m;
  tells = λ i k e. elim (bind_err (spelling i) _ (alike.same i ∙ e)) [
    | inl p ↦ law.tells i k p
    | inr s ↦ let never = s.2 in cc
  ];
}

-- No encoding of a value is empty.
pub prints_some : {S V : Type 0} {valid : S → Type 0} {printed : S → List ℕ} {means : S → V}
    → ((s : S) → 0 < length (printed s)) → (v : V) (b : List ℕ) → Prints valid printed means v b → 0 < length b
prints_some some v b (s, is, ok, same) = omega (arith, some s, ap length same)

-- A value with a valid spelling has the encoding that is written.
pub written_prints : {S V : Type 0} {valid : S → Type 0} {printed : S → List ℕ} {means : S → V} {written : V → S}
    → WritesShortest valid printed means written → (v : V) → valid (written v)
    → Prints valid printed means v (printed (written v))
written_prints {written = written} law v ok = (written v, law.back v, ok, refl)

-- == What steps of reading give, and steps that are joined otherwise ==

-- What a step gives: a value, and the bytes behind it; a pair; a list.
abbrev pub ok_meant : {S M : Type 0} → (S → M) → S → Result M ErrorKind
ok_meant means s = Ok (means s)

abbrev pub ok_meant_front : {S M : Type 0} → (S → M) → S × List ℕ → Result (M × List ℕ) ErrorKind
ok_meant_front means p = Ok (means p.0, p.1)

abbrev pub ok_paired : {A B : Type 0} → A → B → Result (A × B) ErrorKind
ok_paired a b = Ok (a, b)

abbrev pub ok_paired_front : {A B : Type 0} → A → B × List ℕ → Result ((A × B) × List ℕ) ErrorKind
ok_paired_front a q = Ok ((a, q.0), q.1)

abbrev pub pair_map : {A B M N : Type 0} → (A → M) → (B → N) → A × B → M × N
pair_map f g p = (f p.0, g p.1)

abbrev pub ok_listed : {A : Type 0} → A → List A → Result (List A) ErrorKind
ok_listed a rest = Ok (a ∷ rest)

abbrev pub ok_present : {A : Type 0} → A × List ℕ → Result (Option A × List ℕ) ErrorKind
ok_present p = Ok (Some p.0, p.1)

-- Steps of reading, joined otherwise.
pub bind_associative : {A B C : Type 0} (r : Result A ErrorKind) (f : A → Result B ErrorKind)
    (g : B → Result C ErrorKind)
    → ((r >>= f) >>= g) ≡ (r >>= λ a. f a >>= g)
bind_associative (Ok a) f g = refl
bind_associative (Err k) f g = refl
