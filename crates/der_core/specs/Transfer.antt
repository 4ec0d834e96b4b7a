-- Documents that are read from a source or written to a sink.
use Rattle.std.specs.Prelude.{◌≡◌, ◌⊎◌, ℕ, List, Option, Result, Ok, Err}
use Rattle.std.specs.Io.KnownBytes.{Appends}
use Rattle.der_core.specs.declared.error.Error.{Error}
use Rattle.der_core.specs.declared.error.ErrorKind.{ErrorKind}
use Rattle.der_core.specs.declared.error.ErrorKind.TheVariants.{File, OutOfMemory, Overflow}
use Rattle.der_core.specs.Length.{limit}
use Rattle.der_core.specs.Document.{IsDocument}
use Rattle.der_core.specs.Readings.{read_document}
use Rattle.der_core.specs.SourcesSinks.{AppendsFront, GivesAll, GivesMore, GivesSome, OneFailed}

-- how many bytes are read at once
abbrev pub piece : ℕ
piece = 65536

-- What came up to the end is no document, and this is its first fault.
abbrev pub GivesNone : ErrorKind → Option (List ℕ) → Option (List ℕ) → Type 0
GivesNone e old new =
    (bytes : List ℕ) × GivesAll old new bytes × (IsDocument bytes → ⊥) × (read_document bytes ≡ Err e)

-- Why reading stopped: one call of the source failed; or none did, and memory ran out for what came, or too many bytes
-- came.
abbrev pub WhyReadingStopped : ℕ → ErrorKind → Option (List ℕ) → Option (List ℕ) → ℕ → ℕ → Type 0
WhyReadingStopped most e old new failures failures2 =
    ((e ≡ File) × OneFailed failures failures2)
    ⊎ ((e ≡ OutOfMemory) × (failures2 ≡ failures) × GivesSome most old new)
    ⊎ ((e ≡ Overflow) × (failures2 ≡ failures) × GivesMore most piece old new)

-- Why no document was read: reading stopped, at more bytes than a document has; or no call failed, and what came is no
-- document.
abbrev pub WhyDocumentNotRead : ErrorKind → Option (List ℕ) → Option (List ℕ) → ℕ → ℕ → Type 0
WhyDocumentNotRead e old new failures failures2 =
    WhyReadingStopped limit e old new failures failures2 ⊎ ((failures2 ≡ failures) × GivesNone e old new)

-- The document is all that came up to the end, and no call failed; or none was read.
abbrev pub ReadsDocument : {X : Type 0} → (X → List ℕ) → Result X Error
    → Option (List ℕ) → Option (List ℕ) → ℕ → ℕ → Type 0
ReadsDocument encoding (Ok document) old new failures failures2 =
    GivesAll old new (encoding document) × (failures2 ≡ failures)
ReadsDocument encoding (Err e) old new failures failures2 = WhyDocumentNotRead e.kind old new failures failures2

-- All bytes were taken, in order, and no call failed; or a beginning of them was taken, and one call failed.
abbrev pub WritesAll : {X : Type 0} → List ℕ → Result X Error
    → Option (List ℕ) → Option (List ℕ) → ℕ → ℕ → Type 0
WritesAll bytes (Ok x) old new failures failures2 = Appends old new bytes × (failures2 ≡ failures)
WritesAll bytes (Err e) old new failures failures2 =
    AppendsFront old new bytes × (e.kind ≡ File) × OneFailed failures failures2
