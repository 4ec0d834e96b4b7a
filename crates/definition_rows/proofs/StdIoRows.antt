-- Worked rows of `StdIo.antt` of `der_core`: what was opened or created over std's readers and writers.
use Rattle.std.proofs.Common.{ℕ, ◌≡◌, refl, Ok, Err}
use Rattle.std.specs.Prelude.{◌↔◌}
use Rattle.der_core.specs.StdIo.{IsCreated, IsOpened, read_faults, reader_of, write_faults, writer_of}
use Rattle.der_core.specs.declared.error.Error.{Error}
use Rattle.der_core.specs.declared.error.ErrorKind.TheVariants.{File}
use Rattle.der_core.specs.declared.std_io.FromRead.{FromRead}
use Rattle.der_core.specs.declared.std_io.ToWrite.{ToWrite}

module _ {R : Type 0} (source : FromRead R) (sink : ToWrite R) (inner : R) (n : ℕ) (e : Error) where
  parts_of_source : (reader_of source ≡ source.inner) × (read_faults source ≡ source.faults)
  parts_of_source = (refl, refl)

  parts_of_sink : (writer_of sink ≡ sink.inner) × (write_faults sink ≡ sink.faults)
  parts_of_sink = (refl, refl)

  source_opened : (IsOpened {E = ℕ} (Ok inner) (Ok source) ↔ ((source.inner ≡ inner) × (source.faults ≡ 0)))
      × (IsOpened {E = ℕ} (Ok inner) (Err e) → ⊥)
  source_opened = ((λ p. p, λ p. p), (λ p. p))

  source_not_opened : (IsOpened {R = R} (Err n) (Err e) ↔ (e.kind ≡ File)) × (IsOpened {R = R} (Err n) (Ok source) → ⊥)
  source_not_opened = ((λ p. p, λ p. p), (λ p. p))

  sink_created : (IsCreated {E = ℕ} (Ok inner) (Ok sink) ↔ ((sink.inner ≡ inner) × (sink.faults ≡ 0)))
      × (IsCreated {E = ℕ} (Ok inner) (Err e) → ⊥)
  sink_created = ((λ p. p, λ p. p), (λ p. p))

  sink_not_created : (IsCreated {W = R} (Err n) (Err e) ↔ (e.kind ≡ File)) × (IsCreated {W = R} (Err n) (Ok sink) → ⊥)
  sink_not_created = ((λ p. p, λ p. p), (λ p. p))
