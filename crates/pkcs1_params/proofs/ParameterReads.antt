-- Reading a list of fields with `?`: each exit of the code is one lemma. Nothing asks for memory, and what is made of
-- the fields has their faults. For the reading of either type, borrowed and owned.
use Rattle.std.proofs.Common.{◌≡◌, ◌∙◌, ℕ, List, [], ◌∷◌, ap, inl, inr, refl, sym, IfErr, IfOk, Ok, Err, Result, ◌+◌}
use Rattle.std.proofs.lemmas.Bool.{cases_Bool}
use Rattle.der_core.specs.declared.error.ErrorKind.{ErrorKind}
use Rattle.der_core.specs.Words.{AllocatesAtFront, AreBytes, FaultOrMemory, Returns, Tlv, alone, is_next, tagged, ◌>>=◌}
use Rattle.spki_core.specs.Words.{AlgorithmAllocates, FieldAllocates, FieldRecord, Kind, Spelling, defaulted, explicit_is, first_written, record_means, record_noted, record_read, record_reads, spelling_read, tag_of}
use Rattle.spki_core.proofs.Readings.{field_spelled, field_spelled_not, value_if_next}
use Rattle.der_core.specs.declared.error.Error.{Error}
use Rattle.der_core.specs.declared.error.ErrorKind.TheVariants.{OutOfMemory}
use Rattle.standard.specs.Statement.{Field, Fields}

-- A fault of fields of these kinds, and what is read of them.
pub record FieldsFail (ks : List Kind) (e : ErrorKind) (c : List ℕ) : Type 0 where
  pub fails : spelling_read ks c ≡ Err e

pub record FieldsGive (ks : List Kind) (s : Spelling ks) (c : List ℕ) : Type 0 where
  pub gives : spelling_read ks c ≡ Ok s

-- One field and those behind it, with the number and the default of the first as the code has them.
fault_there : (k : Kind) (ks : List Kind) {e : ErrorKind} (c : List ℕ) → defaulted k.number k.at k.default c ≡ Err e
    → spelling_read (k ∷ ks) c ≡ Err e
fault_there k ks {e} c fault = elim (cases_Bool (is_next (160 + k.number) c)) [
  | inl next ↦
      let front : tagged (tag_of k) (alone k.at) c ≡ Err e =
      sym (explicit_is k.at k.number (tag_of k) c refl) ∙ rw next at fault in
      rw (next, front) refl
  | inr gone ↦ let no = rw gone at fault in cc
]

module _ {k : Kind} {ks : List Kind} {given : k.Value} {n : ℕ} (same : given ≡ k.default) (is : n ≡ k.number) where
  -- it has a fault
  pub field_fails : {asks : List ℕ → Type 0} → ((b : List ℕ) → asks b → ⊥) → {e : ErrorKind} {c : List ℕ}
      → FaultOrMemory e (AllocatesAtFront (FieldAllocates n asks) c) (defaulted n k.at given c ≡ Err e)
      → FieldsFail (k ∷ ks) e c
  field_fails never {e} {c} (inl w) = let inner = w.1.3.holds in absurd (never inner.0 inner.3)
  field_fails never {e} {c} (inr fault) = record { fails = fault_there k ks c (rw (is, same) at fault) }

  -- it was read
  module _ {v : k.Value} {c rest : List ℕ} (read : defaulted n k.at given c ≡ Ok (v, rest)) where
    -- a fault is in those behind it
    pub behind_field : {e : ErrorKind} → FieldsFail ks e rest → FieldsFail (k ∷ ks) e c
    behind_field {e} later = record { fails = field_spelled_not k ks same is c rest read e later.fails }

    -- so were those behind it
    pub field_gives : {s : Spelling ks} → FieldsGive ks s rest → FieldsGive (k ∷ ks) (value_if_next k v c, s) c
    field_gives {s} later = record { gives = field_spelled k ks same is c rest read s later.gives }

-- Nothing asks for memory.
pub absurd_never : (b : List ℕ) → ⊥ → ⊥
absurd_never b h = h

pub algorithm_never : {asks : List ℕ → Type 0} → ((b : List ℕ) → asks b → ⊥) → (b : List ℕ)
    → AlgorithmAllocates asks b → ⊥
algorithm_never nothing b p = let h = p.holds in let l = h.1.3 in nothing l.1.0 l.1.3

pub plain_never : (b : List ℕ) → AlgorithmAllocates (λ _. ⊥) b → ⊥
plain_never = algorithm_never absurd_never

pub mask_never : (b : List ℕ) → AlgorithmAllocates (AlgorithmAllocates (λ _. ⊥)) b → ⊥
mask_never = algorithm_never plain_never

pub number_never : (b : List ℕ) → Tlv 2 (λ _. ⊥) b → ⊥
number_never b p = p.holds

-- The end.
pub end_fails : {e : ErrorKind} {c : List ℕ} → FaultOrMemory e ⊥ (spelling_read [] c ≡ Err e) → FieldsFail [] e c
end_fails (inl w) = absurd w.1
end_fails (inr p) = record { fails = p }

-- What is noted of the fields.
pub noted_fails : {V : Type 0} {Is : V → Type 0} {fields : V → List Field} (r : FieldRecord Is fields) {e : ErrorKind}
    {c : List ℕ} → FieldsFail r.kinds e c → record_noted r c ≡ Err e
noted_fails r f = ap (λ o. o >>= λ s. Ok (record_means r s, first_written r.kinds s)) f.fails

pub noted_gives : {V : Type 0} {Is : V → Type 0} {fields : V → List Field} (r : FieldRecord Is fields)
    {s : Spelling r.kinds} {c : List ℕ} → FieldsGive r.kinds s c
    → record_noted r c ≡ Ok (record_means r s, first_written r.kinds s)
noted_gives r f = ap (λ o. o >>= λ s. Ok (record_means r s, first_written r.kinds s)) f.gives

-- Reading of owned parameters: a copy of what was read, or there was no memory for it, which may be asked for.
pub copy_returns : {X V : Type 0} {Is : V → Type 0} {fields : V → List Field} (r : FieldRecord Is fields) (value : X → V)
    (may : List ℕ → Type 0) {why : Type 0} (v : V) (c : List ℕ) → AreBytes c → record_read r c ≡ Ok v
    → (Is v → Fields (fields v) c → why → may c) → (copy : Result X Error) → IfOk copy (λ x. value x ≡ v)
    → IfErr copy (λ e. (e.kind ≡ OutOfMemory) × why) → Returns value (record_read r c) (may c) copy
copy_returns r value may v c bytes p asks (Ok x) same memory = p ∙ ap (λ w. Ok w) (sym same)
copy_returns r value may v c bytes p asks (Err e) same memory =
    let h = (record_reads r).gives c v bytes p in inl (memory.0, asks h.0 h.1 memory.1)
