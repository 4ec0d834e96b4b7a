-- Reading that notes the first default that is written, and reading with and without a look at that.
use Rattle.std.proofs.Common.{ℕ, Bool, true, List, [], ◌∷◌, inl, inr, ◌≡◌, ap, ◌∙◌, sym, refl, ◌+◌, Option, Some, None, Result, Ok, Err, if◌then◌else◌}
use Rattle.std.proofs.lemmas.Bool.{cases_Bool}
use Rattle.der_core.specs.declared.error.ErrorKind.{ErrorKind}
use Rattle.der_core.specs.Words.{◌>>=◌, ReadsAlike, context_octet, is_next, sequence_tag, tagged, tagged_alike, whole, whole_alike}
use Rattle.spki_core.specs.Words.{FieldRecord, Kind, Spelling, first_written, noted_accepted, noted_on, record_alike, record_means, record_noted, record_read, record_strictly, record_whole, spelling_read, strict_whole, unless_found}
use Rattle.spki_core.proofs.Readings.{default_is_there, default_there, value_if_next}
use Rattle.standard.specs.Statement.{Field}

bind_twice : {A B C : Type 0} (q : Result A ErrorKind) (f : A → B) (g : B → Result C ErrorKind)
    → (q >>= λ a. g (f a)) ≡ ((q >>= λ a. Ok (f a)) >>= g)
bind_twice (Ok a) f g = refl
bind_twice (Err k) f g = refl

module _ {V : Type 0} {Is : V → Type 0} {fields : V → List Field} (r : FieldRecord Is fields) (c : List ℕ) where
  pub strictly_noted : record_strictly r c ≡ (record_noted r c >>= λ p. unless_found p.1 p.0)
  strictly_noted =
      bind_twice (spelling_read r.kinds c) (λ s. (record_means r s, first_written r.kinds s)) (λ p. unless_found p.1 p.0)

  pub read_noted : record_read r c ≡ (record_noted r c >>= λ p. Ok p.0)
  read_noted =
      sym ((record_alike r).same c)
      ∙ bind_twice (spelling_read r.kinds c) (λ s. (record_means r s, first_written r.kinds s)) (λ p. Ok p.0)

-- The value of what was noted, strictly or not.
abbrev pub unless_strict : {V : Type 0} → Bool → V × Option ℕ → Result V ErrorKind
unless_strict strict p = if strict then unless_found p.1 p.0 else Ok p.0

module _ {V : Type 0} {Is : V → Type 0} {fields : V → List Field} (r : FieldRecord Is fields) (strict : Bool) where
  -- Contents, and a whole slice, by what is noted of them.
  pub contents_noted : (c : List ℕ) → (if strict then record_strictly r else record_read r) c
      ≡ (record_noted r c >>= unless_strict strict)
  contents_noted c = elim (cases_Bool strict) [
    | inl is ↦ rw is (strictly_noted r c)
    | inr isnt ↦ rw isnt (read_noted r c)
  ]

  slice_same : (b : List ℕ) → (whole (tagged sequence_tag (spelling_read r.kinds)) b
      >>= λ s. Ok (record_means r s, first_written r.kinds s)) ≡ whole (tagged sequence_tag (record_noted r)) b
  slice_same b =
      let alike : ReadsAlike (spelling_read r.kinds) (λ s. (record_means r s, first_written r.kinds s)) (record_noted r) =
      record { same = λ c. refl } in
      (whole_alike (tagged_alike alike sequence_tag)).same b

  pub slice_noted : (b : List ℕ) → (if strict then strict_whole r else record_whole r) b
      ≡ (whole (tagged sequence_tag (record_noted r)) b >>= unless_strict strict)
  slice_noted b = elim (cases_Bool strict) [
    | inl is ↦
        rw is
        (bind_twice (whole (tagged sequence_tag (spelling_read r.kinds)) b)
        (λ s. (record_means r s, first_written r.kinds s)) (λ p. unless_found p.1 p.0)
        ∙ ap (λ o. o >>= λ p. unless_found p.1 p.0) (slice_same b))
    | inr isnt ↦
        rw isnt
        (sym ((whole_alike (tagged_alike (record_alike r) sequence_tag)).same b)
        ∙ bind_twice (whole (tagged sequence_tag (spelling_read r.kinds)) b)
        (λ s. (record_means r s, first_written r.kinds s)) (λ p. Ok p.0)
        ∙ ap (λ o. o >>= λ p. Ok p.0) (slice_same b))
  ]

  -- What is left to do with the value that was noted.
  pub value_rejected : (v : V) (noted : Option ℕ) (k : ErrorKind) → noted_accepted strict noted ≡ Err k
      → unless_strict strict (v, noted) ≡ Err k
  value_rejected v noted k e = elim (cases_Bool strict) [
    | inl is ↦ rw is (go noted (rw is at e))
    | inr isnt ↦ let no = rw isnt at e in cc
  ]
    where
      go : (noted : Option ℕ) → noted_accepted true noted ≡ Err k → unless_found noted v ≡ Err k
      go None e = cc
      go (Some n) e = cc

  pub value_accepted : (v : V) (noted : Option ℕ) → noted_accepted strict noted ≡ Ok tt
      → unless_strict strict (v, noted) ≡ Ok v
  value_accepted v noted e = elim (cases_Bool strict) [
    | inl is ↦ rw is (go noted (rw is at e))
    | inr isnt ↦ rw isnt refl
  ]
    where
      go : (noted : Option ℕ) → noted_accepted true noted ≡ Ok tt → unless_found noted v ≡ Ok v
      go None e = refl
      go (Some n) e = cc

-- Noting field by field, from the left, finds the first that is written. (A field that isn't there has no default
-- there.)
abbrev pub noted_over : (ks : List Kind) → Spelling ks → Option ℕ → Option ℕ
noted_over [] s noted = noted
noted_over (k ∷ ks) s noted = noted_over ks s.1 (noted_on k.number true (default_is_there k s.0) noted)

kept : (ks : List Kind) (s : Spelling ks) (n : ℕ) → noted_over ks s (Some n) ≡ Some n
kept [] s n = refl
kept (k ∷ ks) s n = kept ks s.1 n

pub noted_first : (ks : List Kind) (s : Spelling ks) → noted_over ks s None ≡ first_written ks s
noted_first [] s = refl
noted_first (k ∷ ks) (None, s) = noted_first ks s
noted_first (k ∷ ks) (Some v, s) = elim (cases_Bool (k.is_default v)) [
  | inl here ↦ rw here (kept ks s k.number)
  | inr gone ↦ rw gone (noted_first ks s)
]

-- A field that is noted by the octet of its tag.
pub field_noted : (k : Kind) {n : ℕ} → n ≡ k.number → (v : k.Value) (c : List ℕ) {default : Bool}
    → default ≡ k.is_default v → (before : Option ℕ) {after : Option ℕ}
    → after ≡ noted_on n (is_next (context_octet n) c) default before
    → after ≡ noted_on k.number true (default_is_there k (value_if_next k v c)) before
field_noted k {n} is v c {default} same before {after} e =
    rw (is, same) at e ∙ go before
  where
    go : (o : Option ℕ) → noted_on k.number (is_next (160 + k.number) c) (k.is_default v) o
        ≡ noted_on k.number true (default_is_there k (value_if_next k v c)) o
    go (Some first) = refl
    go None = rw (default_there k v c) refl
