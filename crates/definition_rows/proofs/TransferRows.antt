-- Worked rows of `Transfer.antt` of `der_core`: documents that are read from a source or written to a sink.
use Rattle.std.proofs.Common.{ℕ, List, ◌++◌, ◌≡◌, ◌⊎◌, refl, Option, Ok, Err, Some}
use Rattle.std.specs.Prelude.{◌↔◌}
use Rattle.der_core.specs.Document.{IsDocument}
use Rattle.der_core.specs.Readings.{read_document}
use Rattle.der_core.specs.SourcesSinks.{AppendsFront, GivesAll, GivesMore, GivesSome, OneFailed}
use Rattle.der_core.specs.Transfer.{GivesNone, ReadsDocument, WhyDocumentNotRead, WhyReadingStopped, WritesAll, piece}
use Rattle.der_core.specs.declared.error.Error.{Error}
use Rattle.der_core.specs.declared.error.ErrorKind.{ErrorKind}
use Rattle.der_core.specs.declared.error.ErrorKind.TheVariants.{File, OutOfMemory, Overflow}

piece_is : piece ≡ 65536
piece_is = refl

module _ (old new : Option (List ℕ)) (failures failures2 : ℕ) where
  document_not_given : (e : ErrorKind) → GivesNone e old new
      ↔ ((came : List ℕ) × GivesAll old new came × (IsDocument came → ⊥) × (read_document came ≡ Err e))
  document_not_given e = (λ p. p, λ p. p)

  reading_stopped : (most : ℕ) (e : ErrorKind) → WhyReadingStopped most e old new failures failures2
      ↔ (((e ≡ File) × OneFailed failures failures2)
      ⊎ ((e ≡ OutOfMemory) × (failures2 ≡ failures) × GivesSome most old new)
      ⊎ ((e ≡ Overflow) × (failures2 ≡ failures) × GivesMore most 65536 old new))
  reading_stopped most e = (λ p. p, λ p. p)

  document_not_read : (e : ErrorKind) → WhyDocumentNotRead e old new failures failures2
      ↔ (WhyReadingStopped 4294967295 e old new failures failures2 ⊎ ((failures2 ≡ failures) × GivesNone e old new))
  document_not_read e = (λ p. p, λ p. p)

  document_read : (encoding : List ℕ → List ℕ) (document : List ℕ)
      → ReadsDocument encoding (Ok document) old new failures failures2
      ↔ (GivesAll old new (encoding document) × (failures2 ≡ failures))
  document_read encoding document = (λ p. p, λ p. p)

  document_fault : (encoding : List ℕ → List ℕ) (e : Error) → ReadsDocument encoding (Err e) old new failures failures2
      ↔ WhyDocumentNotRead e.kind old new failures failures2
  document_fault encoding e = (λ p. p, λ p. p)

  not_all_written : (bytes : List ℕ) (e : Error) → WritesAll {X = ℕ} bytes (Err e) old new failures failures2
      ↔ (AppendsFront old new bytes × (e.kind ≡ File) × OneFailed failures failures2)
  not_all_written bytes e = (λ p. p, λ p. p)

all_written : (bytes old new : List ℕ) (n failures failures2 : ℕ)
    → WritesAll bytes (Ok n) (Some old) (Some new) failures failures2 ↔ ((new ≡ old ++ bytes) × (failures2 ≡ failures))
all_written bytes old new n failures failures2 = (λ p. p, λ p. p)
