-- What is written is the shortest: of encodings of any tag, algorithms, and values inside explicit tags.
use Rattle.std.proofs.Common.{ℕ, List, ◌<◌, length, refl, inl, inr, arith, Option}
use Rattle.der_core.specs.Words.{last_shortest, made_shortest, one_spelling_shortest, row_shortest, tagged_shortest, WritesShortest, context_octet}
use Rattle.spki_core.specs.Identifiers.{algorithm_contents, algorithm_map}
use Rattle.spki_core.specs.Explicit.{HasNumbered, Numbered, numbered_map, written_numbered}
use Rattle.spki_core.specs.Readings.{of_algorithm_parts}
use Rattle.standard.specs.Statement.{Algorithm, IsAlgorithm, IsIdentifier, TagAndContents, any}

-- No encoding is empty.
pub any_some : (v : TagAndContents) → 0 < length (any v)
any_some v = omega arith

module _ {S V : Type 0} {valid : S → Type 0} {printed : S → List ℕ} {means : S → V} {written : V → S}
    (law : WritesShortest valid printed means written) where
  abbrev algorithm_pair : {P : Type 0} → Algorithm P → List ℕ × Option P
  algorithm_pair a = (a.oid, a.parameters)

  pub algorithm_writes_shortest : WritesShortest (IsAlgorithm valid) (algorithm_contents printed)
      (algorithm_map means) (algorithm_map written)
  algorithm_writes_shortest =
      made_shortest (row_shortest (tagged_shortest (one_spelling_shortest IsIdentifier (λ o. o)) 6) (last_shortest law))
      of_algorithm_parts algorithm_pair (λ p. refl) (λ a. refl) of_algorithm_parts algorithm_pair (λ p. refl)
      (λ a. refl)

  pub numbered_writes_shortest : WritesShortest (HasNumbered valid) (written_numbered printed) (numbered_map means)
      (numbered_map written)
  numbered_writes_shortest = record {
    back = λ v. λ i. record { number = v.number; value = law.back v.value i };
    valid = λ s ok. (ok.0, law.valid s.value ok.1);
    least = λ s ok few. elim ((tagged_shortest law (context_octet s.number)).least s.value ok.1 few) [
      | inl e ↦ inl (λ i. record { number = s.number; value = e i })
      | inr less ↦ inr less
    ];
  }

pub numbered_some : {S : Type 0} (printed : S → List ℕ) (s : Numbered S) → 0 < length (written_numbered printed s)
numbered_some printed s = omega arith
