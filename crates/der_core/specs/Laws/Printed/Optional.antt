-- Parts that are there or not, rows in front of others, numbers in a range.
use Rattle.std.proofs.Common.{ℕ, true, false, List, [], ◌∷◌, ◌++◌, ◌≡◌, ◌<◌, ◌≤◌, length, refl, sym, subst, ap, ◌∙◌, arith, ⊎_elim, length-append, append-nil, append_assoc, Option, Some, None, Ok, Err, Bool, ◌==◌, ◌||◌}
use Rattle.std.proofs.lemmas.Bool.Decides.{nat_tests}
use Rattle.der_core.specs.declared.error.ErrorKind.{ErrorKind}
use Rattle.der_core.specs.declared.tag.Tag.{Tag}
use Rattle.der_core.specs.Encodings.{AreBytes}
use Rattle.der_core.specs.Laws.LengthReading.{ok_pair, value_error_tells}
use Rattle.der_core.specs.Laws.OptionalReadings.{optional_is, optional_tells}
use Rattle.der_core.specs.Laws.Printed.Rows.{alone_law, tagged_law, reads_printed_as, such_law}
use Rattle.der_core.specs.Laws.Readings.{back_bytes, bind_err, bind_ok, ended_is, ended_tells, made_tells, ok_injective}
use Rattle.der_core.specs.Length.{limit}
use Rattle.der_core.specs.Printed.{ReadsFrontPrinted, ReadsPrinted, ReadsAlike, Begins, Starts, WritesShortest, number_contents, row, true_is_not_false}
use Rattle.der_core.specs.Reading.{TellsOfBytes}
use Rattle.der_core.specs.Readings.{FrontReading, Reading, alone, chain, ended, front_done, front_parts, is_next, last, optional_front, parts, tagged, ◌>>=◌, ReadsFronts, in_range, ranged, unless}
use Rattle.standard.specs.Statement.{IfPresent, optional, tlv}
use Rattle.der_core.specs.declared.error.ErrorKind.TheVariants.{Value}
use Rattle.der_core.specs.Laws.Printed.Leaves.{small_law}
use Rattle.der_core.specs.Parts.{Optional}
use Rattle.der_core.specs.Tags.{integer_tag}

-- A last part that is there or not: whatever is left is read as the part.
module _ {V : Type 0} {Is : V → Type 0} {printed : V → List ℕ} {at : FrontReading V}
    (law : ReadsFrontPrinted Is printed at) where
  pub last_law : ((v : V) → 0 < length (printed v)) → ReadsPrinted (IfPresent Is) (optional printed) (last at)
  last_law some = record { gives = gives; takes = takes; tells = tells }
    where
      gives : (c : List ℕ) (v : Option V) → AreBytes c → last at c ≡ Ok v → IfPresent Is v × (c ≡ optional printed v)
      gives [] v b e =
          subst (λ (u : Option V). IfPresent Is u × ([] ≡ optional printed u)) (ok_injective e) (tt, refl)
      gives (x ∷ xs) v b e =
          let s = bind_ok (alone at (x ∷ xs)) _ e in
          let h = (alone_law law).gives (x ∷ xs) s.0 b s.1 in
          subst (λ (u : Option V). IfPresent Is u × ((x ∷ xs) ≡ optional printed u)) (ok_injective s.2) h

      there : (v : V) (c : List ℕ) → c ≡ printed v → Is v → length c ≤ limit → last at c ≡ Ok (Some v)
      there v [] e ok few = absurd (omega (arith, some v, ap length e))
      there v (x ∷ xs) e ok few =
          ap (λ r. r >>= λ v. Ok (Some v))
          (ap (alone at) e ∙ (alone_law law).takes v ok (omega (arith, few, ap length e)))

      takes : (v : Option V) → IfPresent Is v → length (optional printed v) ≤ limit
          → last at (optional printed v) ≡ Ok v
      takes None ok few = refl
      takes (Some v) ok few = there v (printed v) refl ok few

      tells : (c : List ℕ) (k : ErrorKind) → last at c ≡ Err k → TellsOfBytes k
      tells [] k e = cc
      tells (x ∷ xs) k e = made_tells Some (alone at (x ∷ xs)) ((alone_law law).tells (x ∷ xs) k) e

-- A part that is there exactly if its octet is next, before a row that never begins with that octet.
module _ {A B : Type 0} {IsA : A → Type 0} {IsB : B → Type 0} {first : A → List ℕ} {rest : B → List ℕ}
    {at : FrontReading A} {read : Reading B} (a : ReadsFrontPrinted IsA first at) (b : ReadsPrinted IsB rest read)
    (t : ℕ)
    (begins : (v : A) (x : List ℕ) → is_next t (first v ++ x) ≡ true)
    (other : (w : B) → IsB w → is_next t (rest w) ≡ false) where
  abbrev optional_row_printed : Option A × B → List ℕ
  optional_row_printed v = optional first v.0 ++ rest v.1

  abbrev OptionalRowIsValid : Option A × B → Type 0
  OptionalRowIsValid v = IfPresent IsA v.0 × IsB v.1

  front_takes : (v : Option A) (w : B) → IfPresent IsA v → IsB w → length (optional first v ++ rest w) ≤ limit
      → optional_front t at (optional first v ++ rest w) ≡ Ok (v, rest w)
  front_takes None w none ok few = rw (other w ok) refl
  front_takes (Some v) w ok right few =
      rw (begins v (rest w)) (ap (λ r. r >>= λ p. Ok (Some p.0, p.1)) (a.takes v (rest w) ok few))

  pub optional_row_law : ReadsPrinted (λ v. IfPresent IsA v.0 × IsB v.1) (λ v. optional first v.0 ++ rest v.1)
      (parts (optional_front t at) read)
  optional_row_law = record {
    gives = λ c v bytes e.
        let s = bind_ok (optional_front t at c) _ e in
        let u = bind_ok (read s.0.1) _ s.2 in
        subst (λ (w : Option A × B). OptionalRowIsValid w × (c ≡ optional_row_printed w)) (ok_injective u.2)
        (⊎_elim
        (λ n.
        let h = b.gives s.0.1 u.0 (subst AreBytes n.1 bytes) u.1 in
        subst (λ (o : Option A). (IfPresent IsA o × IsB u.0) × (c ≡ optional first o ++ rest u.0)) (sym n.0)
        ((tt, h.0), n.1 ∙ h.1))
        (λ p.
        let g = a.gives c s.0.1 p.0 bytes p.2 in
        let h = b.gives s.0.1 u.0 (back_bytes (first p.0) s.0.1 (subst AreBytes g.1 bytes)) u.1 in
        subst (λ (o : Option A). (IfPresent IsA o × IsB u.0) × (c ≡ optional first o ++ rest u.0)) (sym p.1)
        ((g.0, h.0), g.1 ∙ ap (λ z. first p.0 ++ z) h.1))
        (optional_is t at c s.0.0 s.0.1 s.1));
    takes = λ v ok few.
        ap (λ r. r >>= λ p. read p.1 >>= λ y. let q : Option A × B = (p.0, y) in Ok q)
        (front_takes v.0 v.1 ok.0 ok.1 few)
        ∙ ap (λ r. r >>= λ y. let q : Option A × B = (v.0, y) in Ok q)
        (b.takes v.1 ok.1 (omega (arith, few, length-append (optional first v.0) (rest v.1))));
    tells = λ c k e.
        ⊎_elim (optional_tells t at c (a.tells c) k)
        (λ s. made_tells (λ y. let q : Option A × B = (s.0.0, y) in q) (read s.0.1) (b.tells s.0.1 k) s.2)
        (bind_err (optional_front t at c) _ e);
  }

-- What follows depends on the first part, which the value tells: a version, and a part that agrees with it.
module _ {A B : Type 0} {IsA : A → Type 0} {IsB : A → B → Type 0} {first : A → List ℕ} {rest : B → List ℕ}
    {at : FrontReading A} {read : A → Reading B} (of : B → A) (a : ReadsFrontPrinted IsA first at)
    (b : (x : A) → ReadsPrinted (IsB x) rest (read x)) (tells_it : (x : A) (y : B) → IsB x y → of y ≡ x) where
  pub chain_law : ReadsPrinted (λ y. IsA (of y) × IsB (of y) y) (λ y. first (of y) ++ rest y) (chain at read)
  chain_law = record {
    gives = λ c v bytes e.
        let s = bind_ok (at c) _ e in
        let g = a.gives c s.0.1 s.0.0 bytes s.1 in
        let h = (b s.0.0).gives s.0.1 v (back_bytes (first s.0.0) s.0.1 (subst AreBytes g.1 bytes)) s.2 in
        subst (λ x. (IsA x × IsB x v) × (c ≡ first x ++ rest v)) (sym (tells_it s.0.0 v h.0))
        ((g.0, h.0), g.1 ∙ ap (λ z. first s.0.0 ++ z) h.1);
    takes = λ v ok few.
        ap (λ r. r >>= λ p. read p.0 p.1) (a.takes (of v) (rest v) ok.0 few)
        ∙ (b (of v)).takes v ok.1 (omega (arith, few, length-append (first (of v)) (rest v)));
    tells = λ c k e. ⊎_elim (a.tells c k) (λ s. (b s.0.0).tells s.0.1 k s.2) (bind_err (at c) _ e);
  }

-- A row of parts at the front.
module _ {A B : Type 0} {IsA : A → Type 0} {IsB : B → Type 0} {first : A → List ℕ} {second : B → List ℕ}
    {at : FrontReading A} {next : FrontReading B} (a : ReadsFrontPrinted IsA first at)
    (b : ReadsFrontPrinted IsB second next) where
  pub front_row_law : ReadsFrontPrinted (λ v. IsA v.0 × IsB v.1) (λ v. first v.0 ++ second v.1) (front_parts at next)
  front_row_law = record {
    gives = λ i rest v bytes e.
        let s = bind_ok (at i) _ e in
        let u = bind_ok (next s.0.1) _ s.2 in
        let end = ok_pair (s.0.0, u.0.0) v u.0.1 rest u.2 in
        let g = a.gives i s.0.1 s.0.0 bytes s.1 in
        let h = b.gives s.0.1 u.0.1 u.0.0 (back_bytes (first s.0.0) s.0.1 (subst AreBytes g.1 bytes)) u.1 in
        subst (λ (w : A × B). (IsA w.0 × IsB w.1) × (i ≡ (first w.0 ++ second w.1) ++ rest)) end.0 (
          (g.0, h.0),
          g.1 ∙ ap (λ z. first s.0.0 ++ z) (h.1 ∙ ap (λ r. second u.0.0 ++ r) end.1)
              ∙ sym (append_assoc (first s.0.0) (second u.0.0) rest),
        );
    takes = λ v rest ok few.
        let same = append_assoc (first v.0) (second v.1) rest in
        let l = ap length same in
        ap (front_parts at next) same
        ∙ ap (λ r. r >>= λ p. next p.1 >>= λ q. let w : A × B = (p.0, q.0) in Ok (w, q.1))
        (a.takes v.0 (second v.1 ++ rest) ok.0 (omega (arith, few, l)))
        ∙ ap (λ r. r >>= λ q. let w : A × B = (v.0, q.0) in Ok (w, q.1))
        (b.takes v.1 rest ok.1 (omega (arith, few, l, length-append (first v.0) (second v.1 ++ rest))));
    tells = λ i k e.
        ⊎_elim (a.tells i k)
        (λ s. ⊎_elim (b.tells s.0.1 k) (λ u. let never = u.2 in cc) (bind_err (next s.0.1) _ s.2))
        (bind_err (at i) _ e);
  }

pub front_end_law : ReadsFrontPrinted (λ (_ : Unit {0}). Unit {0}) (λ _. []) front_done
front_end_law = record {
  gives = λ i rest v bytes e. (tt, (ok_pair tt v i rest e).1);
  takes = λ v rest ok few. refl;
  tells = λ i k e. cc;
}

-- A last part that is there exactly if its octet is next, and agrees with what was read before, or else is a fault.
module _ {V : Type 0} {Is : V → Type 0} {printed : V → List ℕ} {at : FrontReading V}
    (law : ReadsFrontPrinted Is printed at)
    (t : ℕ) (begins : (v : V) (x : List ℕ) → is_next t (printed v ++ x) ≡ true) (Agrees : Option V → Type 0)
    (behind : Option V → Reading (Option V))
    (good : (o : Option V) → Agrees o → behind o ≡ ended o)
    (only : (o p : Option V) (c : List ℕ) → behind o c ≡ Ok p → Agrees o × (c ≡ []) × (o ≡ p))
    (told : (o : Option V) (c : List ℕ) (k : ErrorKind) → behind o c ≡ Err k → TellsOfBytes k) where
  last_takes : (o : Option V) → IfPresent Is o → length (optional printed o) ≤ limit
      → optional_front t at (optional printed o) ≡ Ok (o, [])
  last_takes None ok few = refl
  last_takes (Some v) ok few =
      let all = append-nil (printed v) in
      ap (optional_front t at) (sym all)
      ∙ rw (begins v [])
      (ap (λ r. r >>= λ p. Ok (Some p.0, p.1)) (law.takes v [] ok (omega (arith, few, ap length all))))

  pub checked_optional_law : ReadsPrinted (λ o. Agrees o × IfPresent Is o) (optional printed)
      (chain (optional_front t at) behind)
  checked_optional_law = record {
    gives = λ c v bytes e.
        let s = bind_ok (optional_front t at c) _ e in
        let h = only s.0.0 v s.0.1 s.2 in
        ⊎_elim
        (λ n.
        subst (λ o. (Agrees o × IfPresent Is o) × (c ≡ optional printed o)) h.2
        (subst (λ o. Agrees o → (Agrees o × IfPresent Is o) × (c ≡ optional printed o)) (sym n.0)
        (λ a. ((a, tt), n.1 ∙ h.1)) h.0))
        (λ p.
        let g = law.gives c s.0.1 p.0 bytes p.2 in
        subst (λ o. (Agrees o × IfPresent Is o) × (c ≡ optional printed o)) h.2
        (subst (λ o. Agrees o → (Agrees o × IfPresent Is o) × (c ≡ optional printed o)) (sym p.1)
        (λ a. ((a, g.0), g.1 ∙ ap (λ r. printed p.0 ++ r) h.1 ∙ append-nil (printed p.0))) h.0))
        (optional_is t at c s.0.0 s.0.1 s.1);
    takes = λ v ok few.
        ap (λ r. r >>= λ p. behind p.0 p.1) (last_takes v ok.1 few) ∙ ap (λ f. f []) (good v ok.0);
    tells = λ c k e.
        ⊎_elim (optional_tells t at c (law.tells c) k) (λ s. told s.0.0 s.0.1 k s.2)
        (bind_err (optional_front t at c) _ e);
  }

-- A last part that is known by its tag.
module _ {V : Type 0} {Is : V → Type 0} {printed : V → List ℕ} {read : Reading V} (law : ReadsPrinted Is printed read)
    (tag : Tag) where
  pub last_by_tag_law : ReadsPrinted (IfPresent Is) (optional (λ v. tlv tag.octet (printed v)))
      (alone (optional_front tag.octet (tagged tag read)))
  last_by_tag_law =
      reads_printed_as
      (checked_optional_law (tagged_law law tag) tag.octet (λ v x. grind (arith, nat_tests)) (λ o. Unit {0}) ended
      (λ o a. refl) (λ o p c e. let end = ended_is o p c e in (tt, end.0, end.1)) ended_tells) (λ o p. p.1)
      (λ o p. (tt, p))

-- == Numbers in a range ==
abbrev pub IsInRange : ℕ → ℕ → ℕ → Type 0
IsInRange least most n = ((least ≤ n) × (n ≤ most)) × (n < 256)

pub ranged_law : (least most : ℕ) → ReadsPrinted (IsInRange least most) number_contents (ranged least most)
ranged_law least most =
    such_law small_law (λ n. (least ≤ n) × (n ≤ most)) (in_range least most) (Value integer_tag)
    (λ n e. (grind (arith, nat_tests, e), grind (arith, nat_tests, e)))
    (λ n ok. grind (arith, nat_tests, ok.0, ok.1)) (value_error_tells refl)

-- == Rows whose tags may clash ==
-- Where a row may begin with the tag of the part in front, the two can't be told apart, so nothing is read or written.
pub unless_law : {S : Type 0} {Is : S → Type 0} {printed : S → List ℕ} {read : Reading S} (clash : Bool)
    (failure : ErrorKind) → TellsOfBytes failure → ReadsPrinted Is printed read
    → ReadsPrinted (λ s. (clash ≡ false) × Is s) printed (unless clash failure read)
unless_law true failure told law = record {
  gives = λ c s bytes e. cc;
  takes = λ s ok few. let no = ok.0 in cc;
  tells = λ c k e. let same : failure ≡ k = let q = e in cc in rw same at told;
}
unless_law false failure told law = record {
  gives = λ c s bytes e. let g = law.gives c s bytes e in ((refl, g.0), g.1);
  takes = λ s ok few. law.takes s ok.1 few;
  tells = law.tells;
}

pub unless_shortest : {S V : Type 0} {Is : S → Type 0} {printed : S → List ℕ} {means : S → V} {written : V → S}
    (clash : Bool) → WritesShortest Is printed means written
    → WritesShortest (λ s. (clash ≡ false) × Is s) printed means written
unless_shortest clash law = record {
  back = law.back;
  valid = λ s ok. (ok.0, law.valid s ok.1);
  least = λ s ok few. law.least s ok.1 few;
}

pub unless_alike : {S V : Type 0} {means : S → V} {read : Reading S} {old : Reading V} (clash : Bool)
    (failure : ErrorKind) → ReadsAlike read means old
    → ReadsAlike (unless clash failure read) means (unless clash failure old)
unless_alike true failure law = record { same = λ c. refl }
unless_alike false failure law = law

-- == Which octets encodings and rows begin with ==
neither : (a b : Bool) → (a || b) ≡ false → (a ≡ false) × (b ≡ false)
neither true b e = true_is_not_false e
neither false b e = (refl, e)

abbrev pub tagged_starts : {S : Type 0} (printed : S → List ℕ) (tag : ℕ) → Starts (λ s. tlv tag (printed s))
tagged_starts printed tag = record { with = λ t. tag == t; only = λ s rest t isnt. isnt }

abbrev pub nothing_begins : Begins (λ (_ : Unit {0}). [])
nothing_begins = record { with = λ _. false; only = λ s t isnt. refl }

pub last_begins_only : {A : Type 0} {first : A → List ℕ} (starts : Starts first) (o : Option A) (t : ℕ)
    → starts.with t ≡ false → is_next t (optional first o) ≡ false
last_begins_only starts None t isnt = refl
last_begins_only {first = first} starts (Some s) t isnt =
    ap (is_next t) (sym (append-nil (first s))) ∙ starts.only s [] t isnt

abbrev pub last_begins : {A : Type 0} {first : A → List ℕ} → Starts first → Begins (optional first)
last_begins starts = record { with = starts.with; only = last_begins_only starts }

module _ {A B : Type 0} {first : A → List ℕ} (starts : Starts first) where
  abbrev pub row_begins : (rest : B → List ℕ) → Begins (row first rest)
  row_begins rest = record { with = starts.with; only = λ s t isnt. starts.only s.0 (rest s.1) t isnt }

  pub optional_begins_only : {rest : B → List ℕ} (begins : Begins rest) (s : Option A × B) (t : ℕ)
      → (starts.with t || begins.with t) ≡ false → is_next t (row (optional first) rest s) ≡ false
  optional_begins_only begins (None, r) t isnt = begins.only r t (neither (starts.with t) (begins.with t) isnt).1
  optional_begins_only {rest = rest} begins (Some s, r) t isnt =
      starts.only s (rest r) t (neither (starts.with t) (begins.with t) isnt).0

  abbrev pub optional_begins : {rest : B → List ℕ} → Begins rest → Begins (row (optional first) rest)
  optional_begins begins =
      record { with = λ t. starts.with t || begins.with t; only = optional_begins_only begins }

-- == An OPTIONAL part with a tag, in front of a row that begins with another octet ==
module _ {A B : Type 0} {IsA : A → Type 0} {IsB : B → Type 0} {first : A → List ℕ} {rest : B → List ℕ}
    {inner : Reading A} {read : Reading B} (one : ReadsPrinted IsA first inner) (more : ReadsPrinted IsB rest read)
    (tag : Tag) (begins : Begins rest) where
  pub optional_part_law : ReadsPrinted (λ s. IfPresent IsA s.0 × ((begins.with tag.octet ≡ false) × IsB s.1))
      (row (optional (λ x. tlv tag.octet (first x))) rest)
      (parts (optional_front tag.octet (tagged tag inner)) (unless (begins.with tag.octet) (Value tag) read))
  optional_part_law =
      optional_row_law (tagged_law one tag)
      (unless_law (begins.with tag.octet) (Value tag) (value_error_tells refl) more) tag.octet
      (λ s c. grind (arith, nat_tests)) (λ s ok. begins.only s tag.octet ok.0)

-- What is read of the part is one encoding or nothing.
pub optional_gives : {V : Type 0} {encoding : V → List ℕ → Type 0} {at : FrontReading V} (t : ℕ)
    → ReadsFronts encoding at → (i rest : List ℕ) (o : Option V) → AreBytes i → optional_front t at i ≡ Ok (o, rest)
    → (b : List ℕ) × (i ≡ b ++ rest) × Optional encoding o b
optional_gives {encoding = encoding} {at} t law i rest o bytes e =
    ⊎_elim (λ n. ([], n.1, subst (λ u. Optional encoding u []) (sym n.0) refl))
    (λ p. let g = law.gives i rest p.0 bytes p.2 in (g.0, g.1, subst (λ u. Optional encoding u g.0) (sym p.1) g.2))
    (optional_is t at i o rest e)
