-- Laws of the functions that read: numbers, steps, the end, one encoding alone.
use Rattle.std.proofs.Common.{◌≡◌, ℕ, ◌<◌, ◌≤◌, List, [], ◌∷◌, refl, ap, arith, inl, inr, Result, Ok, Err, suc, zero, nat_lt, ◌==◌, ◌++◌, ◌⊎◌, length, sym, ◌∙◌, ⊎_elim, length-append, append-nil}
use Rattle.std.specs.Int.Digits.{number_from_digits}
use Rattle.std.proofs.lemmas.Bool.Decides.{nat_tests}
use Rattle.der_core.specs.Integer.{IsCanonical, IntegerContents, SmallContents}
use Rattle.der_core.specs.IntegerReading.{integer_of, as_small, small_of}
use Rattle.der_core.specs.Laws.LengthReading.{cond_cases, trailing_error_tells}
use Rattle.der_core.specs.Encodings.{AreBytes}
use Rattle.der_core.specs.declared.error.ErrorKind.{ErrorKind}
use Rattle.der_core.specs.declared.error.ErrorKind.TheVariants.{TrailingData}
use Rattle.der_core.specs.Laws.Integer.{integer_of_takes, integer_tells, small_of_takes, small_tells}
use Rattle.der_core.specs.Length.{limit}
use Rattle.der_core.specs.Reading.{TellsOfBytes}
use Rattle.der_core.specs.Readings.{Reading, FrontReading, ◌>>=◌, ended, made, alone, any_contents, ReadsContents, ReadsFronts}

octet_canonical : (x : ℕ) → AreBytes (x ∷ []) → IsCanonical (x ∷ [])
octet_canonical zero b = inl refl
octet_canonical (suc n) b = inr (b, omega arith)

-- The number that is read has these contents.
pub integer_gives : (c bytes : List ℕ) → AreBytes c → integer_of c ≡ Ok bytes → IntegerContents bytes c
integer_gives [] bytes b e = cc
integer_gives (x ∷ []) bytes b e = elim (cond_cases (nat_lt x 128) _ _ _ e) [
  | inl w ↦
      let less : x < 128 = grind (arith, nat_tests, w.0) in
      let same : x ∷ [] ≡ bytes = let is = w.1 in cc in
      rw (← same) (octet_canonical x b, inl (less, refl))
  | inr w ↦ let no = w.1 in cc
]
integer_gives (x ∷ y ∷ ys) bytes b e = elim (cond_cases (nat_lt x 128) _ _ _ e) [
  | inl w ↦
      let less : x < 128 = grind (arith, nat_tests, w.0) in
      elim (cond_cases (x == 0) _ _ _ w.1) [
        | inl v ↦ elim (cond_cases (nat_lt y 128) _ _ _ v.1) [
          | inl u ↦ let no = u.1 in cc
          | inr u ↦
              let empty : x ≡ 0 = grind (arith, nat_tests, v.0) in
              let much : 128 ≤ y = grind (arith, nat_tests, u.0) in
              let same : y ∷ ys ≡ bytes = let is = u.1 in cc in
              rw (← same) (inr (b.1, omega arith), inr (much, ap (λ z. z ∷ y ∷ ys) empty))
        ]
        | inr v ↦
            let some : 0 < x = grind (arith, nat_tests, v.0) in
            let same : x ∷ y ∷ ys ≡ bytes = let is = v.1 in cc in
            rw (← same) (inr (b, some), inl (less, refl))
      ]
  | inr w ↦ let no = w.1 in cc
]

-- The same of a number from 0 to 255.
small_gives_of : (c : List ℕ) (n : ℕ) → AreBytes c → (r : Result (List ℕ) ErrorKind) → integer_of c ≡ r
    → as_small r ≡ Ok n → SmallContents n c
small_gives_of c n b (Err k) is e = cc
small_gives_of c n b (Ok bytes) is e = elim (cond_cases (nat_lt (number_from_digits 256 bytes) 256) _ _ _ e) [
  | inl w ↦
      let less : number_from_digits 256 bytes < 256 = grind (arith, nat_tests, w.0) in
      let same : number_from_digits 256 bytes ≡ n = let is = w.1 in cc in
      (rw (← same) less, (bytes, same, integer_gives c bytes b is))
  | inr w ↦ let no = w.1 in cc
]

pub small_gives : (c : List ℕ) (n : ℕ) → AreBytes c → small_of c ≡ Ok n → SmallContents n c
small_gives c n b e = small_gives_of c n b (integer_of c) refl e

-- == Reading by functions: a step, the end, one encoding alone, any octets ==

-- Parts of bytes are bytes.
pub front_bytes : (x y : List ℕ) → AreBytes (x ++ y) → AreBytes x
front_bytes [] y b = tt
front_bytes (a ∷ x) y b = (b.0, front_bytes x y b.1)

pub back_bytes : (x y : List ℕ) → AreBytes (x ++ y) → AreBytes y
back_bytes [] y b = b
back_bytes (a ∷ x) y b = back_bytes x y b.1

pub behind_bytes : {i : List ℕ} (x y : List ℕ) → i ≡ x ++ y → AreBytes i → AreBytes y
behind_bytes x y is b = back_bytes x y (rw is at b)

pub behind_within : {i : List ℕ} (x y : List ℕ) → i ≡ x ++ y → length i ≤ limit → length y ≤ limit
behind_within x y is within = omega (arith, within, ap length is, length-append x y)

pub relation_of_equals : {V : Type 0} (P : V → List ℕ → Type 0) {v w : V} {b c : List ℕ} → v ≡ w → b ≡ c → P v b → P w c
relation_of_equals P e f p = rw (← e, ← f) p

-- A step of reading.
pub ok_injective : {A : Type 0} {a b : A} → ◌≡◌ {A = Result A ErrorKind} (Ok a) (Ok b) → a ≡ b
ok_injective e = cc

pub bind_ok : {A B : Type 0} (r : Result A ErrorKind) (f : A → Result B ErrorKind) {b : B} → (r >>= f) ≡ Ok b
    → (a : A) × (r ≡ Ok a) × (f a ≡ Ok b)
bind_ok (Ok a) f e = (a, refl, e)
bind_ok (Err k) f e = cc

pub bind_err : {A B : Type 0} (r : Result A ErrorKind) (f : A → Result B ErrorKind) {k : ErrorKind} → (r >>= f) ≡ Err k
    → (r ≡ Err k) ⊎ ((a : A) × (r ≡ Ok a) × (f a ≡ Err k))
bind_err (Ok a) f e = inr (a, refl, e)
bind_err (Err j) f {k} e = let same : j ≡ k = cc in inl (ap (λ x. Err x) same)

-- A value that is made of another.
pub made_tells : {A B : Type 0} (make : A → B) (r : Result A ErrorKind) {k : ErrorKind}
    → (r ≡ Err k → TellsOfBytes k) → (r >>= λ a. Ok (make a)) ≡ Err k → TellsOfBytes k
made_tells make r tells e = ⊎_elim tells (λ s. let no = s.2 in cc) (bind_err r (λ a. Ok (make a)) e)

pub made_errs : {A B : Type 0} (make : A → B) (read : Reading A) (k : ErrorKind) (c : List ℕ) → read c ≡ Err k
    → made make read c ≡ Err k
made_errs make read k c e = ap (λ r. r >>= λ a. Ok (make a)) e

-- INTEGER, one expected number, and contents without restrictions.
pub integer_reads : ReadsContents IntegerContents integer_of
integer_reads = record { gives = integer_gives; takes = λ c v w p. integer_of_takes v c p; tells = integer_tells }

pub small_reads : ReadsContents SmallContents small_of
small_reads = record { gives = small_gives; takes = λ c v w p. small_of_takes v c p; tells = small_tells }

pub any_contents_reads : ReadsContents (λ (_ : Unit {0}) c. AreBytes c) any_contents
any_contents_reads = record { gives = λ c v b e. b; takes = λ c v w p. refl; tells = λ c k e. cc }

-- The end.
pub ended_is : {V : Type 0} (v w : V) (c : List ℕ) → ended v c ≡ Ok w → (c ≡ []) × (v ≡ w)
ended_is v w [] e = (refl, ok_injective e)
ended_is v w (x ∷ xs) e = cc

pub ended_tells : {V : Type 0} (v : V) (c : List ℕ) (k : ErrorKind) → ended v c ≡ Err k → TellsOfBytes k
ended_tells v [] k e = cc
ended_tells v (x ∷ xs) k e = let same : TrailingData ≡ k = cc in trailing_error_tells (sym same)

-- One encoding alone.
module _ {V : Type 0} {encoding : V → List ℕ → Type 0} {at : FrontReading V} (law : ReadsFronts encoding at) where
  pub alone_reads : ReadsContents encoding (alone at)
  alone_reads = record {
    gives = λ c v b e.
        let s = bind_ok (at c) _ e in
        let x = law.gives c s.0.1 s.0.0 b s.1 in
        let end = ended_is s.0.0 v s.0.1 s.2 in
        let all : c ≡ x.0 = x.1 ∙ ap (λ y. x.0 ++ y) end.0 ∙ append-nil x.0 in
        relation_of_equals encoding end.1 (sym all) x.2;
    takes = λ c v w p. ap (λ r. r >>= λ p. ended p.0 p.1) (law.takes c c [] v w (sym (append-nil c)) p);
    tells = λ c k e. ⊎_elim (law.tells c k) (λ s. ended_tells s.0.0 s.0.1 k s.2) (bind_err (at c) _ e);
  }
