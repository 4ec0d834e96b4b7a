-- Spellings are read as the values that they mean; and values with one spelling each.
use Rattle.std.proofs.Common.{ℕ, zero, suc, Bool, true, false, List, [], ◌∷◌, ◌≡◌, length, map, refl, sym, ap, ◌∙◌, Result, Ok, Err, Some, None, option_map, if◌then◌else◌, nat_lt, Option}
use Rattle.der_core.specs.declared.error.ErrorKind.{ErrorKind}
use Rattle.der_core.specs.declared.error.ErrorKind.TheVariants.{Overflow}
use Rattle.der_core.specs.declared.tag.Tag.{Tag}
use Rattle.der_core.specs.Input.{header_at}
use Rattle.der_core.specs.Laws.Printed.Items.{bind_associative, ok_listed, ok_meant, ok_meant_front, ok_paired, ok_paired_front, ok_present, pair_map}
use Rattle.der_core.specs.Length.{limit}
use Rattle.der_core.specs.Printed.{ReadsAlike, ReadsFrontAlike, value_in, AreSpelledOnce}
use Rattle.der_core.specs.Readings.{FrontReading, Reading, alone, chain, contents_behind, ended, front_parts, inside, is_next, items, items_within, last, made, optional_front, parts, tagged, whole, ◌>>=◌}

-- The same function: values are spelled as themselves.
pub reading_alike : {V : Type 0} (read : Reading V) → ReadsAlike read (λ v. v) read
reading_alike {V} read = record { same = λ c. go (read c) }
  where
    go : (r : Result V ErrorKind) → (r >>= ok_meant (λ v. v)) ≡ r
    go (Ok v) = refl
    go (Err k) = refl

pub front_alike : {V : Type 0} (at : FrontReading V) → ReadsFrontAlike at (λ v. v) at
front_alike {V} at = record { same = λ i. go (at i) }
  where
    go : (r : Result (V × List ℕ) ErrorKind) → (r >>= ok_meant_front (λ v. v)) ≡ r
    go (Ok p) = refl
    go (Err k) = refl

-- A row; a row at the front of contents that go on behind it.
module _ {A B V W : Type 0} {at : FrontReading A} {meansA : A → V} {meansB : B → W} {at_old : FrontReading V}
    (a : ReadsFrontAlike at meansA at_old) where
  pub row_alike : {read : Reading B} {old : Reading W} → ReadsAlike read meansB old
      → ReadsAlike (parts at read) (λ p. let q : V × W = (meansA p.0, meansB p.1) in q) (parts at_old old)
  row_alike {read} {old} b = record {
    same = λ c. go (at c) ∙ ap (λ r. r >>= λ q. old q.1 >>= ok_paired q.0) (a.same c);
  }
    where
      go : (r : Result (A × List ℕ) ErrorKind)
          → ((r >>= λ p. read p.1 >>= ok_paired p.0) >>= ok_meant (pair_map meansA meansB))
          ≡ ((r >>= ok_meant_front meansA) >>= λ q. old q.1 >>= ok_paired q.0)
      go (Ok p) =
          bind_associative (read p.1) (ok_paired p.0) (ok_meant (pair_map meansA meansB))
          ∙ sym (bind_associative (read p.1) (ok_meant meansB) (ok_paired (meansA p.0)))
          ∙ ap (λ r. r >>= ok_paired (meansA p.0)) (b.same p.1)
      go (Err k) = refl

  pub front_row_alike : {next : FrontReading B} {old : FrontReading W} → ReadsFrontAlike next meansB old
      → ReadsFrontAlike (front_parts at next) (λ p. let q : V × W = (meansA p.0, meansB p.1) in q)
      (front_parts at_old old)
  front_row_alike {next} {old} b = record {
    same = λ i. go (at i) ∙ ap (λ r. r >>= λ q. old q.1 >>= ok_paired_front q.0) (a.same i);
  }
    where
      go : (r : Result (A × List ℕ) ErrorKind)
          → ((r >>= λ p. next p.1 >>= ok_paired_front p.0) >>= ok_meant_front (pair_map meansA meansB))
          ≡ ((r >>= ok_meant_front meansA) >>= λ q. old q.1 >>= ok_paired_front q.0)
      go (Ok p) =
          bind_associative (next p.1) (ok_paired_front p.0) (ok_meant_front (pair_map meansA meansB))
          ∙ sym (bind_associative (next p.1) (ok_meant_front meansB) (ok_paired_front (meansA p.0)))
          ∙ ap (λ r. r >>= ok_paired_front (meansA p.0)) (b.same p.1)
      go (Err k) = refl

  -- What follows depends on the first part.
  pub chain_alike : {read : A → Reading B} (old : V → Reading W)
      → ((x : A) → ReadsAlike (read x) meansB (old (meansA x)))
      → ReadsAlike (chain at read) meansB (chain at_old old)
  chain_alike {read} old b = record { same = λ c. go (at c) ∙ ap (λ r. r >>= λ q. old q.0 q.1) (a.same c) }
    where
      go : (r : Result (A × List ℕ) ErrorKind)
          → ((r >>= λ p. read p.0 p.1) >>= ok_meant meansB) ≡ ((r >>= ok_meant_front meansA) >>= λ q. old q.0 q.1)
      go (Ok p) = (b p.0).same p.1
      go (Err k) = refl

module _ {S V : Type 0} {read : Reading S} {means : S → V} {old : Reading V} (law : ReadsAlike read means old) where
  -- Values that are made of others.
  pub made_alike : {T W : Type 0} (make : S → T) (make_old : V → W) (meansT : T → W)
      → ((s : S) → meansT (make s) ≡ make_old (means s)) → ReadsAlike (made make read) meansT (made make_old old)
  made_alike make make_old meansT new = record {
    same = λ c. go (read c) ∙ ap (λ r. r >>= ok_meant make_old) (law.same c);
  }
    where
      go : (r : Result S ErrorKind)
          → ((r >>= ok_meant make) >>= ok_meant meansT) ≡ ((r >>= ok_meant means) >>= ok_meant make_old)
      go (Ok s) = ap (λ w. Ok w) (new s)
      go (Err k) = refl

  -- Contents behind a tag.
  inside_alike : (p : List ℕ × List ℕ) → (inside read p >>= ok_meant_front means) ≡ inside old p
  inside_alike p =
      bind_associative (read p.0) (λ s. ok_paired s p.1) (ok_meant_front means)
      ∙ sym (bind_associative (read p.0) (ok_meant means) (λ v. ok_paired v p.1))
      ∙ ap (λ r. r >>= λ v. ok_paired v p.1) (law.same p.0)

  pub tagged_alike : (tag : Tag) → ReadsFrontAlike (tagged tag read) means (tagged tag old)
  tagged_alike tag = record { same = λ i. go (header_at i) }
    where
      next : (r : Result (List ℕ × List ℕ) ErrorKind)
          → ((r >>= inside read) >>= ok_meant_front means) ≡ (r >>= inside old)
      next (Ok p) = inside_alike p
      next (Err k) = refl

      go : (r : Result ((ℕ × ℕ) × List ℕ) ErrorKind)
          → ((r >>= λ h. contents_behind tag h >>= inside read) >>= ok_meant_front means)
          ≡ (r >>= λ h. contents_behind tag h >>= inside old)
      go (Ok h) = next (contents_behind tag h)
      go (Err k) = refl

  -- What is read, without the kind of a fault.
  pub values_alike : (c : List ℕ) → option_map means (value_in (read c)) ≡ value_in (old c)
  values_alike c = go (read c) ∙ ap value_in (law.same c)
    where
      go : (r : Result S ErrorKind) → option_map means (value_in r) ≡ value_in (r >>= ok_meant means)
      go (Ok s) = refl
      go (Err k) = refl

-- One encoding alone, a last part, a part that is there if its octet is next, a list, a whole slice.
module _ {S V : Type 0} {at : FrontReading S} {means : S → V} {old : FrontReading V}
    (law : ReadsFrontAlike at means old) where
  pub alone_alike : ReadsAlike (alone at) means (alone old)
  alone_alike = record { same = λ c. go (at c) ∙ ap (λ r. r >>= λ p. ended p.0 p.1) (law.same c) }
    where
      end : (s : S) (rest : List ℕ) → (ended s rest >>= ok_meant means) ≡ ended (means s) rest
      end s [] = refl
      end s (x ∷ xs) = refl

      go : (r : Result (S × List ℕ) ErrorKind)
          → ((r >>= λ p. ended p.0 p.1) >>= ok_meant means) ≡ ((r >>= ok_meant_front means) >>= λ p. ended p.0 p.1)
      go (Ok p) = end p.0 p.1
      go (Err k) = refl

  pub last_alike : ReadsAlike (last at) (option_map means) (last old)
  last_alike = record { same = go }
    where
      there : (r : Result S ErrorKind)
          → ((r >>= ok_meant Some) >>= ok_meant (option_map means)) ≡ ((r >>= ok_meant means) >>= ok_meant Some)
      there (Ok s) = refl
      there (Err k) = refl

      go : (c : List ℕ) → made (option_map means) (last at) c ≡ last old c
      go [] = refl
      go (x ∷ xs) = there (alone at (x ∷ xs)) ∙ ap (λ r. r >>= ok_meant Some) (alone_alike.same (x ∷ xs))

  pub optional_alike : (t : ℕ) → ReadsFrontAlike (optional_front t at) (option_map means) (optional_front t old)
  optional_alike t = record { same = λ i. go i (is_next t i) }
    where
      there : (r : Result (S × List ℕ) ErrorKind)
          → ((r >>= ok_present) >>= ok_meant_front (option_map means)) ≡ ((r >>= ok_meant_front means) >>= ok_present)
      there (Ok p) = refl
      there (Err k) = refl

      go : (i : List ℕ) (b : Bool)
          → ((if b then (at i >>= ok_present) else ok_paired None i) >>= ok_meant_front (option_map means))
          ≡ (if b then (old i >>= ok_present) else ok_paired None i)
      go i true = there (at i) ∙ ap (λ r. r >>= ok_present) (law.same i)
      go i false = refl

  items_same : (n : ℕ) (c : List ℕ) → made (map means) (items_within n at) c ≡ items_within n old c
  items_same n [] = refl
  items_same zero (x ∷ xs) = refl
  items_same (suc n) (x ∷ xs) =
      go (items_same n) (at (x ∷ xs))
      ∙ ap (λ r. r >>= λ p. items_within n old p.1 >>= ok_listed p.0) (law.same (x ∷ xs))
    where
      go : ((c : List ℕ) → made (map means) (items_within n at) c ≡ items_within n old c)
          → (r : Result (S × List ℕ) ErrorKind)
          → ((r >>= λ p. items_within n at p.1 >>= ok_listed p.0) >>= ok_meant (map means))
          ≡ ((r >>= ok_meant_front means) >>= λ p. items_within n old p.1 >>= ok_listed p.0)
      go more (Ok p) =
          bind_associative (items_within n at p.1) (ok_listed p.0) (ok_meant (map means))
          ∙ sym (bind_associative (items_within n at p.1) (ok_meant (map means)) (ok_listed (means p.0)))
          ∙ ap (λ r. r >>= ok_listed (means p.0)) (more p.1)
      go more (Err k) = refl

  pub items_alike : ReadsAlike (items at) (map means) (items old)
  items_alike = record { same = λ c. items_same (length c) c }

  pub whole_alike : ReadsAlike (whole at) means (whole old)
  whole_alike = record { same = λ c. go c (nat_lt limit (length c)) }
    where
      go : (c : List ℕ) (b : Bool)
          → ((if b then Err Overflow else alone at c) >>= ok_meant means) ≡ (if b then Err Overflow else alone old c)
      go c true = refl
      go c false = alone_alike.same c

-- Values with one spelling each: what is made of such values has one spelling too.
pub itself_once : {V : Type 0} → AreSpelledOnce {S = V} (λ v. v)
itself_once s t e = e

pub row_once : {A B V W : Type 0} {meansA : A → V} {meansB : B → W} → AreSpelledOnce meansA → AreSpelledOnce meansB
    → AreSpelledOnce (λ (s : A × B). let v : V × W = (meansA s.0, meansB s.1) in v)
row_once a b s t e = λ i. (a s.0 t.0 (ap (λ v. v.0) e) i, b s.1 t.1 (ap (λ v. v.1) e) i)

pub last_once : {S V : Type 0} {means : S → V} → AreSpelledOnce means → AreSpelledOnce (option_map means)
last_once once None None e = refl
last_once once None (Some t) e = cc
last_once once (Some s) None e = cc
last_once {means = means} once (Some s) (Some t) e =
    let same : means s ≡ means t = let q : ◌≡◌ {A = Option _} (Some (means s)) (Some (means t)) = e in cc in
    ap (λ x. Some x) (once s t same)

pub list_once : {S V : Type 0} {means : S → V} → AreSpelledOnce means → AreSpelledOnce (map means)
list_once once [] [] e = refl
list_once once [] (t ∷ ts) e = cc
list_once once (s ∷ ss) [] e = cc
list_once {means = means} once (s ∷ ss) (t ∷ ts) e =
    let first : means s ≡ means t = cc in let rest : map means ss ≡ map means ts = cc in
    λ i. once s t first i ∷ list_once once ss ts rest i
