-- A row, a value that is made of another, a test, a tag in front, and a whole slice: each law of its parts' laws.
use Rattle.std.proofs.Common.{ℕ, Bool, true, false, List, [], ◌++◌, ◌≡◌, ◌<◌, ◌≤◌, ◌==◌, length, refl, sym, subst, ap, ◌∙◌, arith, inl, inr, ⊎_elim, Result, Ok, Err, Option, Some, None, length-append, append-nil, option_map, nat_lt, if◌then◌else◌}
use Rattle.std.proofs.lemmas.Bool.{cases_lt}
use Rattle.std.proofs.lemmas.Bool.Decides.{nat_tests}
use Rattle.der_core.specs.declared.error.ErrorKind.{ErrorKind}
use Rattle.der_core.specs.declared.error.ErrorKind.TheVariants.{Overflow, Value}
use Rattle.der_core.specs.declared.tag.Tag.{Tag}
use Rattle.der_core.specs.Encodings.{AreBytes}
use Rattle.der_core.specs.Laws.LengthReading.{cond_cases, value_error_tells}
use Rattle.der_core.specs.Laws.Printed.Leaves.{small_law, tlv_is, tlv_made}
use Rattle.der_core.specs.Laws.Readings.{back_bytes, bind_err, bind_ok, ended_is, ended_tells, made_tells, ok_injective}
use Rattle.der_core.specs.Laws.TaggedReadings.{tagged_reads}
use Rattle.der_core.specs.Tags.{integer_tag}
use Rattle.der_core.specs.Length.{limit}
use Rattle.der_core.specs.Printed.{number_contents, PrintsOne, ReadsFrontPrinted, ReadsPrinted, Spells, row, value_in}
use Rattle.der_core.specs.Reading.{TellsOfBytes}
use Rattle.der_core.specs.Readings.{FrontReading, Reading, ReadsContents, alone, ended, expected, made, no_parts, parts, such, tagged, whole, ◌>>=◌}
use Rattle.standard.specs.Statement.{Decodes, tlv}

-- The same spellings, said otherwise.
pub reads_printed_as : {S : Type 0} {Is Valid : S → Type 0} {printed : S → List ℕ} {read : Reading S}
    → ReadsPrinted Is printed read → ((s : S) → Is s → Valid s) → ((s : S) → Valid s → Is s)
    → ReadsPrinted Valid printed read
reads_printed_as law to from = record {
  gives = λ c s bytes e. let h = law.gives c s bytes e in (to s h.0, h.1);
  takes = λ s ok few. law.takes s (from s ok) few;
  tells = law.tells;
}

-- The end of a row, and a row.
pub end_law : ReadsPrinted (λ _. Unit {0}) (λ _. []) no_parts
end_law = record {
  gives = λ c v bytes e. (tt, (ended_is tt v c e).0);
  takes = λ v ok few. refl;
  tells = ended_tells tt;
}

module _ {A B : Type 0} {IsA : A → Type 0} {IsB : B → Type 0} {first : A → List ℕ} {rest : B → List ℕ}
    {at : FrontReading A} {read : Reading B} (a : ReadsFrontPrinted IsA first at) (b : ReadsPrinted IsB rest read) where
  pub row_law : ReadsPrinted (λ v. IsA v.0 × IsB v.1) (row first rest) (parts at read)
  row_law = record {
    gives = λ c v bytes e.
        let s = bind_ok (at c) _ e in
        let u = bind_ok (read s.0.1) _ s.2 in
        let g = a.gives c s.0.1 s.0.0 bytes s.1 in
        let h = b.gives s.0.1 u.0 (back_bytes (first s.0.0) s.0.1 (subst AreBytes g.1 bytes)) u.1 in
        subst (λ (w : A × B). (IsA w.0 × IsB w.1) × (c ≡ row first rest w)) (ok_injective u.2)
        ((g.0, h.0), g.1 ∙ ap (λ z. first s.0.0 ++ z) h.1);
    takes = λ v ok few.
        ap (λ r. r >>= λ p. read p.1 >>= λ y. let q : A × B = (p.0, y) in Ok q) (a.takes v.0 (rest v.1) ok.0 few)
        ∙ ap (λ r. r >>= λ y. let q : A × B = (v.0, y) in Ok q)
        (b.takes v.1 ok.1 (omega (arith, few, length-append (first v.0) (rest v.1))));
    tells = λ c k e.
        ⊎_elim (a.tells c k) (λ s. made_tells (λ y. let q : A × B = (s.0.0, y) in q) (read s.0.1) (b.tells s.0.1 k) s.2)
        (bind_err (at c) _ e);
  }

-- A value that is made of another, and back.
module _ {A V : Type 0} {Is : A → Type 0} {printed : A → List ℕ} {read : Reading A} (law : ReadsPrinted Is printed read)
    (make : A → V) (back : V → A) (there : (a : A) → back (make a) ≡ a) (again : (v : V) → make (back v) ≡ v) where
  pub made_law : ReadsPrinted (λ v. Is (back v)) (λ v. printed (back v)) (made make read)
  made_law = record {
    gives = λ c v bytes e.
        let s = bind_ok (read c) (λ x. Ok (make x)) e in
        subst (λ y. Is y × (c ≡ printed y)) (sym (there s.0) ∙ ap back (ok_injective s.2)) (law.gives c s.0 bytes s.1);
    takes = λ v ok few. ap (λ r. r >>= λ x. Ok (make x)) (law.takes (back v) ok few) ∙ ap (λ w. Ok w) (again v);
    tells = λ c k e. made_tells make (read c) (law.tells c k) e;
  }

-- Values that pass a test.
module _ {V : Type 0} {Is : V → Type 0} {printed : V → List ℕ} {read : Reading V} (law : ReadsPrinted Is printed read)
    (Passes : V → Type 0) (test : V → Bool) (failure : ErrorKind) where
  pub such_law : ((v : V) → test v ≡ true → Passes v) → ((v : V) → Passes v → test v ≡ true) → TellsOfBytes failure
      → ReadsPrinted (λ v. Passes v × Is v) printed (such test failure read)
  such_law to from told = record {
    gives = λ c v b e.
        let s = bind_ok (read c) _ e in
        ⊎_elim
        (λ w.
        let h = law.gives c s.0 b s.1 in
        subst (λ u. (Passes u × Is u) × (c ≡ printed u)) (ok_injective w.1) ((to s.0 w.0, h.0), h.1))
        (λ w. let never = w.1 in cc) (cond_cases (test s.0) _ _ _ s.2);
    takes = λ v ok few.
        let passed : test v ≡ true = from v ok.0 in
        ap (λ r. r >>= λ v. if test v then Ok v else Err failure) (law.takes v ok.1 few) ∙ rw passed refl;
    tells = λ c k e.
        ⊎_elim (law.tells c k)
        (λ s. ⊎_elim (λ w. let never = w.1 in cc) (λ w. let same : failure ≡ k = let q = w.1 in cc in rw same at told)
        (cond_cases (test s.0) _ _ _ s.2)) (bind_err (read c) _ e);
  }

-- One value that has to be there, which isn't kept.
abbrev pub nothing_of : {V : Type 0} → V → Unit {0}
nothing_of v = tt

module _ {V : Type 0} {Is : V → Type 0} {printed : V → List ℕ} {read : Reading V} (law : ReadsPrinted Is printed read)
    (wanted : V) (test : V → Bool) (failure : ErrorKind) where
  pub fixed_law : ((v : V) → test v ≡ true → v ≡ wanted) → test wanted ≡ true → TellsOfBytes failure
      → ReadsPrinted (λ _. Is wanted) (λ _. printed wanted) (made nothing_of (such test failure read))
  fixed_law to passes told =
      let tested = such_law law (λ v. v ≡ wanted) test failure to (λ v e. ap test e ∙ passes) told in
      record {
        gives = λ c v b e.
            let s = bind_ok (such test failure read c) (λ v. Ok (nothing_of v)) e in
            let h = tested.gives c s.0 b s.1 in
            subst (λ u. Is u × (c ≡ printed u)) h.0.0 (h.0.1, h.1);
        takes = λ v ok few. ap (λ r. r >>= λ v. Ok (nothing_of v)) (tested.takes wanted (refl, ok) few);
        tells = λ c k e. made_tells nothing_of (such test failure read c) (tested.tells c k) e;
      }

pub expected_law : (n : ℕ) → ReadsPrinted (λ _. n < 256) (λ _. number_contents n) (expected n)
expected_law n =
    fixed_law small_law n (λ v. v == n) (Value integer_tag) (λ v e. grind (arith, nat_tests, e))
    (grind (arith, nat_tests))
    (value_error_tells refl)

-- A tag in front.
module _ {V : Type 0} {Is : V → Type 0} {printed : V → List ℕ} {read : Reading V} (law : ReadsPrinted Is printed read)
    (tag : Tag) where
  abbrev as_relation : ReadsContents (λ v c. Is v × (c ≡ printed v)) read
  as_relation = record {
    gives = law.gives;
    takes = λ c v few p. ap read p.1 ∙ law.takes v p.0 (omega (arith, few, ap length p.1));
    tells = law.tells;
  }

  pub tagged_law : ReadsFrontPrinted Is (λ v. tlv tag.octet (printed v)) (tagged tag read)
  tagged_law =
      let old = tagged_reads tag as_relation in
      record {
        gives = λ i rest v bytes is.
            let (b, e, t) = old.gives i rest v bytes is in
            (t.holds.0, e ∙ ap (λ x. x ++ rest) (tlv_is tag.octet (printed v) b (λ c p. p.1) t));
        takes = λ v rest ok few.
            old.takes (tlv tag.octet (printed v) ++ rest) (tlv tag.octet (printed v)) rest v few refl
            (tlv_made tag.octet (printed v) (ok, refl)
            (omega (arith, few, length-append (tlv tag.octet (printed v)) rest)));
        tells = old.tells;
      }

-- One encoding alone, and a whole slice.
module _ {S : Type 0} {valid : S → Type 0} {printed : S → List ℕ} {at : FrontReading S}
    (law : ReadsFrontPrinted valid printed at) where
  pub alone_law : ReadsPrinted valid printed (alone at)
  alone_law = record {
    gives = λ c v b e.
        let s = bind_ok (at c) _ e in
        let end = ended_is s.0.0 v s.0.1 s.2 in
        let h = law.gives c s.0.1 s.0.0 b s.1 in
        let all : c ≡ printed s.0.0 = h.1 ∙ ap (λ y. printed s.0.0 ++ y) end.0 ∙ append-nil (printed s.0.0) in
        subst (λ u. valid u × (c ≡ printed u)) end.1 (h.0, all);
    takes = λ v ok few.
        ap (alone at) (sym (append-nil (printed v)))
        ∙ ap (λ r. r >>= λ p. ended p.0 p.1)
        (law.takes v [] ok (omega (arith, few, ap length (append-nil (printed v)))));
    tells = λ c k e. ⊎_elim (law.tells c k) (λ s. ended_tells s.0.0 s.0.1 k s.2) (bind_err (at c) _ e);
  }

  -- A spelling, as a value that encodes as itself.
  abbrev PrintsWithinLimit : S → List ℕ → Type 0
  PrintsWithinLimit s bytes = (length bytes ≤ limit) × valid s × (bytes ≡ printed s)

  pub whole_takes : (s : S) (bytes : List ℕ) → PrintsWithinLimit s bytes → whole at bytes ≡ Ok s
  whole_takes s bytes (few, ok, is) =
      let t : nat_lt limit (length bytes) ≡ false = grind (arith, nat_tests) in
      ap (λ b. if b then Err Overflow else alone at bytes) t ∙ ap (alone at) is
      ∙ alone_law.takes s ok (omega (arith, few, ap length is))

  whole_gives : (s : S) (bytes : List ℕ) → AreBytes bytes → whole at bytes ≡ Ok s → PrintsWithinLimit s bytes
  whole_gives s bytes are was = elim (cases_lt limit (length bytes)) [
    | inl long ↦ let t : nat_lt limit (length bytes) ≡ true = grind (arith, nat_tests) in
        let never : ◌≡◌ {A = Result S ErrorKind} (Err Overflow) (Ok s) =
        sym (ap (λ b. if b then Err Overflow else alone at bytes) t) ∙ was in cc
    | inr few ↦ let t : nat_lt limit (length bytes) ≡ false = grind (arith, nat_tests) in
        let within : length bytes ≤ limit = omega (arith, few) in
        let h =
        alone_law.gives bytes s are (sym (ap (λ b. if b then Err Overflow else alone at bytes) t) ∙ was) in
        (within, h.0, h.1)
  ]

  pub whole_decodes : (bytes : List ℕ) → AreBytes bytes → Decodes PrintsWithinLimit bytes (value_in (whole at bytes))
  whole_decodes bytes are = go (whole at bytes) refl
    where
      go : (r : Result S ErrorKind) → whole at bytes ≡ r → Decodes PrintsWithinLimit bytes (value_in r)
      go (Ok s) was =
          (whole_gives s bytes are was, λ other p. ok_injective (sym (whole_takes other bytes p) ∙ was))
      go (Err k) was = λ s p. let never = sym (whole_takes s bytes p) ∙ was in cc

  -- What reading a whole slice is promised to give, of the values that spellings mean.
  pub meant_decodes : {V : Type 0} (means : S → V) (bytes : List ℕ) → AreBytes bytes
      → Decodes (Spells valid printed means) bytes (option_map means (value_in (whole at bytes)))
  meant_decodes {V} means bytes are = go (value_in (whole at bytes)) (whole_decodes bytes are)
    where
      go : (o : Option S) → Decodes PrintsWithinLimit bytes o
          → Decodes (Spells valid printed means) bytes (option_map means o)
      go (Some s) p =
          ((p.0.0, (s, refl, p.0.1, p.0.2)), λ other q. sym q.1.1 ∙ ap means (p.1 q.1.0 (q.0, q.1.2, q.1.3)))
      go None p = λ v q. p q.1.0 (q.0, q.1.2, q.1.3)

  pub prints_one : PrintsOne valid printed
  prints_one s t x y ok right few same =
      let both : ◌≡◌ {A = Result (S × List ℕ) ErrorKind} (Ok (s, x)) (Ok (t, y)) =
      sym (law.takes s x ok few) ∙ ap at same ∙ law.takes t y right (omega (arith, few, ap length same)) in
      let pair : ◌≡◌ {A = S × List ℕ} (s, x) (t, y) = cc in
      (ap (λ q. q.0) pair, ap (λ q. q.1) pair)

-- What is promised of values is promised of others that stand for them, and have the same encodings.
pub decodes_as : {V W : Type 0} (Encoding : V → List ℕ → Type 0) (Other : W → List ℕ → Type 0) (to : V → W)
    (from : W → V) → ((w : W) → to (from w) ≡ w) → (bytes : List ℕ)
    → ((v : V) → Encoding v bytes → Other (to v) bytes) → ((w : W) → Other w bytes → Encoding (from w) bytes)
    → (o : Option V) → Decodes Encoding bytes o → Decodes Other bytes (option_map to o)
decodes_as Encoding Other to from back bytes there again (Some v) p =
    (there v p.0, λ w q. sym (back w) ∙ ap to (p.1 (from w) (again w q)))
decodes_as Encoding Other to from back bytes there again None p = λ w q. p (from w) (again w q)
