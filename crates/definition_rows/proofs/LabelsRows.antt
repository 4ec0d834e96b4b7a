-- Worked rows of `Labels.antt` of `pkcs1_params`: the label of a source.
use Rattle.std.proofs.Common.{List, ℕ, ◌≡◌, Some, None}
use Rattle.std.specs.Prelude.{◌↔◌}
use Rattle.pkcs1_params.specs.Labels.{HasLabel, LabelOf}
use Rattle.standard.specs.Statement.{Algorithm, TagAndContents, empty_label}

abbrev source_of : List ℕ → Algorithm TagAndContents
source_of label = record { oid = empty_label.oid; parameters = Some (record { tag = 4; contents = label }) }

module _ (source : Algorithm TagAndContents) where
  label_held : (label : List ℕ) → HasLabel source label ↔ (source ≡ source_of label)
  label_held label = (λ p. p, λ p. p)

  label_of_source : (label : List ℕ) → (LabelOf source (Some label) ↔ (source ≡ source_of label))
      × (LabelOf source None ↔ ((other : List ℕ) → source ≡ source_of other → ⊥))
  label_of_source label = ((λ p. p, λ p. p), (λ p. p, λ p. p))
