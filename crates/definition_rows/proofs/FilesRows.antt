-- Worked rows of `Files.antt` of `der_core`: which calls on files were made, and what a file gave or took.
use Rattle.std.proofs.Common.{ℕ, List, [], ◌∷◌, ◌++◌, ◌≡◌, ◌⊎◌, refl, true, false, Option, Ok, Err, Some, None}
use Rattle.std.specs.Io.KnownBytes.{Appends}
use Rattle.std.specs.Prelude.{◌↔◌}
use Rattle.der_core.specs.Files.{FileCall, FileFault, FileGives, FileRefuses, FileTakes, Obtains, created, opened, removed, renamed, with_call, with_calls}
use Rattle.der_core.specs.SourcesSinks.{AppendsFront, GivesAll, OneFailed}
use Rattle.der_core.specs.Transfer.{WhyDocumentNotRead}
use Rattle.der_core.specs.declared.error.Error.{Error}
use Rattle.der_core.specs.declared.error.ErrorKind.{ErrorKind}
use Rattle.der_core.specs.declared.error.ErrorKind.TheVariants.{File}

call_added : (made : List FileCall) (call : FileCall) → with_call (Some made) call ≡ Some (made ++ call ∷ [])
call_added made call = refl

calls_in_order : (path : List ℕ) → with_calls (Some (opened path ∷ [])) (created path ∷ removed path true ∷ [])
    ≡ Some (opened path ∷ created path ∷ removed path true ∷ [])
calls_in_order path = refl

calls_unknown : (path : List ℕ) → with_calls None (renamed path path false ∷ []) ≡ None
calls_unknown path = refl

file_obtained : (Is : Option ℕ → Type 0) (file : ℕ) → Obtains Is (Ok file) ↔ Is (Some file)
file_obtained Is file = (λ p. p, λ p. p)

none_obtained : (Is : Option ℕ → Type 0) (e : Error) → Obtains Is (Err e) ↔ (Is None × (e.kind ≡ File))
none_obtained Is e = (λ p. p, λ p. p)

module _ {F : Type 0} (Has : Option F → Type 0) (IsClosed IsFlushed : F → Type 0) (state : F → Option (List ℕ))
    (failures : F → ℕ) (bytes : List ℕ) where
  file_given : FileGives Has state bytes
      ↔ ((file file2 : F) × Has (Some file) × GivesAll (state file) (state file2) bytes)
  file_given = (λ p. p, λ p. p)

  file_at_fault : (e : ErrorKind) → FileFault Has state failures e
      ↔ ((Has None × (e ≡ File)) ⊎ ((file file2 : F) × Has (Some file)
      × WhyDocumentNotRead e (state file) (state file2) (failures file) (failures file2)))
  file_at_fault e = (λ p. p, λ p. p)

  file_taken : FileTakes Has IsClosed state IsFlushed bytes ↔ ((file file2 : F) × Has (Some file) × IsClosed file2
      × Appends (state file) (state file2) bytes × IsFlushed file2)
  file_taken = (λ p. p, λ p. p)

  file_refused : FileRefuses Has IsClosed state failures bytes
      ↔ (Has None ⊎ ((file file2 : F) × Has (Some file) × IsClosed file2
      × AppendsFront (state file) (state file2) bytes × OneFailed (failures file) (failures file2)))
  file_refused = (λ p. p, λ p. p)
