-- The functions read what is printed of identifiers, of encodings of any tag, of algorithms and of values inside
-- explicit tags, and nothing else. They read the values that spellings mean.
use Rattle.std.proofs.Common.{ℕ, false, List, ◌++◌, ◌≡◌, ◌<◌, ◌≤◌, ◌-◌, length, length-append, refl, sym, ap, ◌∙◌, arith, subst, ⊎_elim, Ok, Err, ◌||◌, nat_lt, IsTrue, true, Result, inl, inr}
use Rattle.std.proofs.lemmas.Bool.{cases_Bool}
use Rattle.der_core.specs.Words.{nat_tests, cond_cases, front_alike, tlv_is, tlv_made, last_law, front_reading_reads, alone_law, made_law, row_law, tagged_law, bind_ok, made_tells, ok_injective, by_tag_reads, Prints, ReadsFrontPrinted, ReadsPrinted, TellsOfBytes, FrontReading, Reading, ReadsContents, ReadsFronts, alone, by_tag, ◌>>=◌, context_octet, is_allowed, object_identifier_tag, front_of, header_at, reading_alike, alone_alike, last_alike, made_alike, row_alike, tagged_alike, ok_meant, ok_meant_front, ok_paired, ReadsAlike, ReadsFrontAlike, inside}
use Rattle.der_core.specs.declared.error.ErrorKind.{ErrorKind}
use Rattle.der_core.specs.declared.error.ErrorKind.TheVariants.{OidMalformed}
use Rattle.spki_core.specs.Identifiers.{algorithm_contents, algorithm_map}
use Rattle.spki_core.specs.Explicit.{HasNumbered, Numbered, written_numbered, numbered_map}
use Rattle.spki_core.specs.IdentifierTest.{is_identifier}
use Rattle.spki_core.specs.Laws.IdentifierTest.{is_identifier-complete, is_identifier-sound}
use Rattle.spki_core.specs.Laws.Readings.{number_allowed}
use Rattle.spki_core.specs.Readings.{algorithm_read, any_front, identifier_read, numbered, numbered_in, of_algorithm_parts, opaque}
use Rattle.standard.specs.Statement.{IsAlgorithm, IsAny, IsIdentifier, TagAndContents, tlv}
use Rattle.standard.specs.Statement as standard
use Rattle.der_core.specs.Laws.Printed.Items.{bind_associative}

-- OBJECT IDENTIFIER
pub oid_law : ReadsPrinted IsIdentifier (λ o. o) identifier_read
oid_law = record {
  gives = λ c o bytes e.
      ⊎_elim
      (λ w. let same : c ≡ o = ok_injective w.1 in (subst IsIdentifier same (is_identifier-sound c bytes w.0), same))
      (λ w. let no = w.1 in cc) (cond_cases (is_identifier c) _ _ _ e);
  takes = λ o ok few. let yes : is_identifier o ≡ true = is_identifier-complete o ok in rw yes refl;
  tells = λ c k e.
      ⊎_elim (λ w. let no = w.1 in cc)
      (λ w. let same : OidMalformed ≡ k = let q = w.1 in cc in (λ no. cc, λ no. cc, λ no. cc))
      (cond_cases (is_identifier c) _ _ _ e);
}

-- AlgorithmIdentifier: an identifier, and parameters that are OPTIONAL and the last part.
module _ {P : Type 0} {Is : P → Type 0} {printed : P → List ℕ} {at : FrontReading P}
    (law : ReadsFrontPrinted Is printed at) (some : (p : P) → 0 < length (printed p)) where
  pub algorithm_law : ReadsPrinted (IsAlgorithm Is) (algorithm_contents printed) (algorithm_read at)
  algorithm_law =
      made_law (row_law (tagged_law oid_law object_identifier_tag) (last_law law some)) of_algorithm_parts
      (λ a. (a.oid, a.parameters)) (λ p. refl) (λ a. refl)

-- Contents behind any tag, of which the value tells both.
module _ {S : Type 0} {valid : S → Type 0} (octet : S → ℕ) (contents : S → List ℕ) (read : ℕ → Reading S)
    (inner : (t : ℕ) → IsTrue (is_allowed t) → ReadsPrinted (λ s. (octet s ≡ t) × valid s) contents (read t))
    (tells : (t : ℕ) (c : List ℕ) (k : ErrorKind) → read t c ≡ Err k → TellsOfBytes k)
    (allowed : (s : S) → valid s → IsTrue (is_allowed (octet s))) where
  abbrev Inner : S → List ℕ → Type 0
  Inner s c = valid s × (c ≡ contents s)

  inner_reads : (t : ℕ) → IsTrue (is_allowed t) → ReadsContents (λ s c. (octet s ≡ t) × Inner s c) (read t)
  inner_reads t ok = record {
    gives = λ c s bytes e. let h = (inner t ok).gives c s bytes e in (h.0.0, (h.0.1, h.1));
    takes = λ c s few p.
        ap (read t) p.1.1 ∙ (inner t ok).takes s (p.0, p.1.0) (omega (arith, ap length p.1.1));
    tells = tells t;
  }

  pub by_tag_law : ReadsFrontPrinted valid (λ s. tlv (octet s) (contents s)) (by_tag read)
  by_tag_law =
      let old = by_tag_reads octet Inner read inner_reads tells (λ s c p. allowed s p.0) in
      record {
        gives = λ i rest s bytes e.
            let (b, is, t) = old.gives i rest s bytes e in
            (t.holds.0, is ∙ ap (λ x. x ++ rest) (tlv_is (octet s) (contents s) b (λ c p. p.1) t));
        takes = λ s rest ok few.
            old.takes (tlv (octet s) (contents s) ++ rest) (tlv (octet s) (contents s)) rest s few refl
            (tlv_made (octet s) (contents s) (ok, refl)
            (omega (arith, length-append (tlv (octet s) (contents s)) rest)));
        tells = old.tells;
      }

-- Any tag.
opaque_law : (t : ℕ) → IsTrue (is_allowed t)
    → ReadsPrinted (λ (v : TagAndContents). (v.tag ≡ t) × IsAny v) (λ v. v.contents) (opaque t)
opaque_law t allowed = record {
  gives = λ c v bytes e.
      subst (λ (v : TagAndContents). ((v.tag ≡ t) × IsAny v) × (c ≡ v.contents)) (ok_injective e)
      ((refl, (allowed, bytes)), refl);
  takes = λ v ok few. λ i. Ok (record { tag = sym ok.0 i; contents = v.contents });
  tells = λ c k e. cc;
}

pub any_law : ReadsFrontPrinted IsAny standard.any any_front
any_law =
    by_tag_law (λ (v : TagAndContents). v.tag) (λ v. v.contents) opaque opaque_law (λ t c k e. cc) (λ v ok. ok.0)

-- The function reads the values of these encodings.
pub any_values : ReadsFronts (Prints IsAny standard.any (λ v. v)) any_front
any_values = front_reading_reads any_law (front_alike any_front)

-- Explicit tags.
module _ {S : Type 0} {valid : S → Type 0} {printed : S → List ℕ} {at : FrontReading S}
    (law : ReadsFrontPrinted valid printed at) where
  numbered_in_tells : (t : ℕ) (c : List ℕ) (k : ErrorKind) → numbered_in at t c ≡ Err k → TellsOfBytes k
  numbered_in_tells t c k e =
      ⊎_elim (λ w. (λ no. cc, λ no. cc, λ no. cc))
      (λ w. made_tells (λ x. record { number = t - 160; value = x }) (alone at c) ((alone_law law).tells c k) w.1)
      (cond_cases (nat_lt t 160 || nat_lt 190 t) _ _ _ e)

  numbered_in_law : (t : ℕ) → IsTrue (is_allowed t)
      → ReadsPrinted (λ (v : Numbered S). (context_octet v.number ≡ t) × HasNumbered valid v) (λ v. printed v.value)
      (numbered_in at t)
  numbered_in_law t allowed = record {
    gives = λ c v bytes e.
        ⊎_elim (λ w. let no = w.1 in cc)
        (λ w.
        let s = bind_ok (alone at c) _ w.1 in
        let low : 160 ≤ t = grind (arith, nat_tests) in
        let high : t ≤ 190 = grind (arith, nat_tests) in
        let h = (alone_law law).gives c s.0 bytes s.1 in
        subst (λ (v : Numbered S). ((context_octet v.number ≡ t) × HasNumbered valid v) × (c ≡ printed v.value))
        (ok_injective s.2) ((omega arith, (omega arith, h.0)), h.1))
        (cond_cases (nat_lt t 160 || nat_lt 190 t) _ _ _ e);
    takes = λ v ok few.
        let inside : (nat_lt t 160 || nat_lt 190 t) ≡ false = grind (arith, nat_tests) in
        let number : t - 160 ≡ v.number = omega arith in
        rw inside
        (ap (λ r. r >>= λ x. Ok (record { number = t - 160; value = x })) ((alone_law law).takes v.value ok.1.1 few)
        ∙ ap (λ n. Ok (record { number = n; value = v.value })) number);
    tells = numbered_in_tells t;
  }

  pub numbered_law : ReadsFrontPrinted (HasNumbered valid) (written_numbered printed) (numbered at)
  numbered_law =
      by_tag_law (λ (v : Numbered S). context_octet v.number) (λ v. printed v.value) (numbered_in at) numbered_in_law
      numbered_in_tells (λ v ok. number_allowed v.number ok.0)

-- == Algorithms and values inside explicit tags are read as the values that their spellings mean ==

-- Two steps are one that gives the same of each value.
bind_same : {A B C : Type 0} (r : Result A ErrorKind) (f : A → Result B ErrorKind) (g : B → Result C ErrorKind)
    (h : A → Result C ErrorKind) → ((a : A) → (f a >>= g) ≡ h a) → ((r >>= f) >>= g) ≡ (r >>= h)
bind_same (Ok a) f g h e = e a
bind_same (Err k) f g h e = refl

-- Contents behind any tag.
module _ {S V : Type 0} {read : ℕ → Reading S} {means : S → V} {old : ℕ → Reading V}
    (law : (t : ℕ) → ReadsAlike (read t) means (old t)) where
  by_tag_inside_alike : (t : ℕ) (p : List ℕ × List ℕ) → (inside (read t) p >>= ok_meant_front means) ≡ inside (old t) p
  by_tag_inside_alike t p =
      bind_associative (read t p.0) (λ s. ok_paired s p.1) (ok_meant_front means)
      ∙ sym (bind_associative (read t p.0) (ok_meant means) (λ v. ok_paired v p.1))
      ∙ ap (λ r. r >>= λ v. ok_paired v p.1) ((law t).same p.0)

  pub by_tag_alike : ReadsFrontAlike (by_tag read) means (by_tag old)
  by_tag_alike = record {
    same = λ i. bind_same (header_at i) _ _ _ (λ h. bind_same (front_of h.0.1 h.1) _ _ _ (by_tag_inside_alike h.0.0));
  }

module _ {S V : Type 0} {at : FrontReading S} {means : S → V} {old : FrontReading V}
    (law : ReadsFrontAlike at means old) where
  pub algorithm_alike : ReadsAlike (algorithm_read at) (algorithm_map means) (algorithm_read old)
  algorithm_alike =
      made_alike (row_alike (tagged_alike (reading_alike identifier_read) object_identifier_tag) (last_alike law))
      of_algorithm_parts of_algorithm_parts (algorithm_map means) (λ s. refl)

  abbrev numbered_as : {A : Type 0} → ℕ → A → Numbered A
  numbered_as t a = record { number = t - 160; value = a }

  numbered_in_alike : (t : ℕ) → ReadsAlike (numbered_in at t) (numbered_map means) (numbered_in old t)
  numbered_in_alike t = record {
    same = λ c. elim (cases_Bool (nat_lt t 160 || nat_lt 190 t)) [
      | inl out ↦ rw out refl
      | inr within ↦ rw within
          ((made_alike (alone_alike law) (numbered_as t) (numbered_as t) (numbered_map means) (λ s. refl)).same c)
    ];
  }

  pub numbered_alike : ReadsFrontAlike (numbered at) (numbered_map means) (numbered old)
  numbered_alike = by_tag_alike numbered_in_alike
