-- Worked rows of `Copied.antt` of `pkcs1_program`: what copying a key does, and why none is copied.
use Rattle.std.proofs.Common.{ℕ, List, [], ◌∷◌, ◌≡◌, ◌≢◌, ◌⊎◌, codes, refl, Bool, Option, Ok, Err, Some, None}
use Rattle.std.specs.Io.KnownBytes.{Consumes}
use Rattle.std.specs.Prelude.{◌↔◌}
use Rattle.der_core.specs.Words.{FileCall, GivesAll, Reading, WhyReadingStopped, created_new, looked_for, opened, read_document}
use Rattle.der_core.specs.declared.error.ErrorKind.{ErrorKind}
use Rattle.der_core.specs.declared.error.ErrorKind.TheVariants.{File, Incomplete}
use Rattle.pkcs1.specs.Words.{IsEncoded}
use Rattle.pkcs1_params.specs.Words.{IsAsn1}
use Rattle.pkcs1_program.specs.Copied.{CopiesFile, GivesWrong, IsSequenceFront, KeyFileGives, WhyFileNotRead, WhyKeyNotRead, WhyNotCopied, creation_after, left_text, write_error_text}
use Rattle.pkcs1_program.specs.Replaced.{Aim, Fills, PutsFile, RefusesFile}
use Rattle.pkcs1_program.specs.declared.copy_error.CopyError.TheVariants.{Read, Write}
use Rattle.pkcs1_program.specs.declared.copy_error.WriteError.{WriteError}
use Rattle.pkcs1_program.specs.declared.copy_error.WriteError.TheVariants as error

sequence_front : (bytes : List ℕ) → IsSequenceFront bytes
    ↔ ((read_document bytes ≡ Ok tt) ⊎ (read_document bytes ≡ Err Incomplete))
sequence_front bytes = (λ p. p, λ p. p)

texts_of_errors : (write_error_text error.Open ≡ codes "it can't be opened") × (left_text None ≡ [])
texts_of_errors = (refl, refl)

created_after : (mode : ℕ → Option ℕ → ℕ) (umask : Option ℕ → Bool) (read : ℕ) (path : List ℕ) (old : Option ℕ)
    → creation_after mode umask read path old ≡ created_new path (mode read old) (umask old)
created_after mode umask read path old = refl

module _ (read : Reading ℕ) (e : ErrorKind) (old new : Option (List ℕ)) where
  wrong_given : GivesWrong e old new ↔ ((front : List ℕ) × Consumes old new front × (read_document front ≡ Err e)
      × (e ≢ Incomplete))
  wrong_given = (λ p. p, λ p. p)

  key_not_read : (failures failures2 : ℕ) → WhyKeyNotRead read e old new failures failures2
      ↔ ((WhyReadingStopped 4294967295 e old new failures failures2 ⊎ ((failures2 ≡ failures) × GivesWrong e old new))
      ⊎ ((failures2 ≡ failures) × (encoding : List ℕ) × GivesAll old new encoding × (read encoding ≡ Err e)))
  key_not_read failures failures2 = (λ p. p, λ p. p)

module _ {V F : Type 0} (Encoding : V → List ℕ → Type 0) (mode : ℕ → Option ℕ → ℕ) (umask : Option ℕ → Bool)
    (Opens : Option F → Type 0) (HasMode : F → ℕ → Type 0) (remaining : F → Option (List ℕ))
    (aims : List ℕ → Option Aim → Type 0) (old new : Fills) (Made : List FileCall → Type 0) (input output : List ℕ)
    (reading : Reading V) (failures : F → ℕ) (left : Option (List ℕ)) where
  key_file_given : (read : ℕ) (encoding : List ℕ) → KeyFileGives Encoding Opens HasMode remaining read encoding
      ↔ ((file file2 : F) × Opens (Some file) × HasMode file read
      × GivesAll (remaining file) (remaining file2) encoding × IsEncoded Encoding encoding)
  key_file_given read encoding = (λ p. p, λ p. p)

  file_not_read : (e : ErrorKind) → WhyFileNotRead reading Opens remaining failures e
      ↔ ((Opens None × (e ≡ File)) ⊎ ((file file2 : F) × Opens (Some file)
      × WhyKeyNotRead reading e (remaining file) (remaining file2) (failures file) (failures file2)))
  file_not_read e = (λ p. p, λ p. p)

  file_copied : CopiesFile Encoding mode umask Opens HasMode remaining aims old new Made input output
      ↔ ((read : ℕ) × (encoding : List ℕ) × KeyFileGives Encoding Opens HasMode remaining read encoding
      × PutsFile aims old new (creation_after mode umask read)
      (λ calls. Made (opened input ∷ looked_for output ∷ calls)) output encoding)
  file_copied = (λ p. p, λ p. p)

  copy_not_read : (asn1 : _)
      → WhyNotCopied Encoding mode umask Opens HasMode remaining aims old new Made input output reading failures
      (Read asn1) left
      ↔ (IsAsn1 (λ e. WhyFileNotRead reading Opens remaining failures e.kind) asn1 × Made (opened input ∷ [])
      × (left ≡ None))
  copy_not_read asn1 = (λ p. p, λ p. p)

  copy_not_written : (e : WriteError)
      → WhyNotCopied Encoding mode umask Opens HasMode remaining aims old new Made input output reading failures
      (Write e) left
      ↔ ((read : ℕ) × (encoding : List ℕ) × KeyFileGives Encoding Opens HasMode remaining read encoding
      × RefusesFile aims old new (creation_after mode umask read)
      (λ calls. Made (opened input ∷ looked_for output ∷ calls)) output e left encoding)
  copy_not_written e = (λ p. p, λ p. p)
