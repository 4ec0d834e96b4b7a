-- Worked rows of `Written.antt` of `pkcs1_program`: how much of the output was written.
use Rattle.std.proofs.Common.{ℕ, List, ◌++◌, ◌≡◌, Option}
use Rattle.std.specs.Io.KnownBytes.{Appends}
use Rattle.std.specs.Prelude.{◌↔◌}
use Rattle.der_core.specs.Words.{AppendsFront}
use Rattle.pkcs1_program.specs.Answer.{Outputs}
use Rattle.pkcs1_program.specs.Written.{WritesFirst, WritesFront, WritesFrontOfAll, WritesOutput}

module _ (old new : Option (List ℕ)) (lines : List (List ℕ)) where
  output_written : WritesOutput old new lines ↔ ((output : List ℕ) × Outputs lines output × Appends old new output)
  output_written = (λ p. p, λ p. p)

  first_lines_written : WritesFirst old new lines
      ↔ ((first later : List (List ℕ)) × (lines ≡ first ++ later)
      × ((output : List ℕ) × Outputs first output × Appends old new output))
  first_lines_written = (λ p. p, λ p. p)

  output_front_written : WritesFront old new lines ↔ ((first later : List (List ℕ)) × (lines ≡ first ++ later)
      × (output : List ℕ) × Outputs first output × AppendsFront old new output)
  output_front_written = (λ p. p, λ p. p)

  front_of_all_written : WritesFrontOfAll old new lines
      ↔ ((output : List ℕ) → Outputs lines output → AppendsFront old new output)
  front_of_all_written = (λ p. p, λ p. p)
