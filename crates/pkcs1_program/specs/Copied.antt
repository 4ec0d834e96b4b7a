-- What copying a key does.
use Rattle.std.specs.Prelude.{◌≡◌, ◌≢◌, ◌⊎◌, ℕ, Bool, List, [], ◌∷◌, ◌++◌, Option, Some, None, Result, MatchResult, Ok, Err, codes, option_map}
use Rattle.std.specs.Io.KnownBytes.{Consumes}
use Rattle.std.specs.Path.{path_buf_bytes, path_bytes}
use Rattle.der_core.specs.declared.error.ErrorKind.{ErrorKind}
use Rattle.der_core.specs.declared.error.ErrorKind.TheVariants as kind
use Rattle.der_core.specs.Words.{FileCall, GivesAll, Reading, WhyReadingStopped, created_new, limit, looked_for, opened, read_document}
use Rattle.pkcs1.specs.Words.{IsEncoded}
use Rattle.pkcs1_params.specs.Words.{IsAsn1, error_text}
use Rattle.pkcs1_program.specs.Replaced.{Aim, Fills, PutsFile, RefusesFile}
use Rattle.pkcs1_program.specs.declared.copy_error.CopyError.{CopyError}
use Rattle.pkcs1_program.specs.declared.copy_error.CopyError.TheVariants.{Read, Write}
use Rattle.pkcs1_program.specs.declared.copy_error.FileError.{FileError}
use Rattle.pkcs1_program.specs.declared.copy_error.WriteError.{WriteError}
use Rattle.pkcs1_program.specs.declared.copy_error.WriteError.TheVariants as error

-- These bytes are a SEQUENCE, or too few for one.
abbrev pub IsSequenceFront : List ℕ → Type 0
IsSequenceFront bytes = (read_document bytes ≡ Ok tt) ⊎ (read_document bytes ≡ Err kind.Incomplete)

-- What came isn't a beginning of a SEQUENCE: this is its fault, and it isn't that it is too short.
abbrev pub GivesWrong : ErrorKind → Option (List ℕ) → Option (List ℕ) → Type 0
GivesWrong e old new =
    (front : List ℕ) × Consumes old new front × (read_document front ≡ Err e) × (e ≢ kind.Incomplete)

-- No key was read: reading stopped, or no read failed and what came is no beginning of a SEQUENCE; or no read failed, and
-- of all that the source gave the function that reads a key gives this error.
abbrev pub WhyKeyNotRead : {V : Type 0} → Reading V → ErrorKind → Option (List ℕ) → Option (List ℕ) → ℕ → ℕ → Type 0
WhyKeyNotRead read e before after failures failures2 =
    (WhyReadingStopped limit e before after failures failures2
    ⊎ ((failures2 ≡ failures) × GivesWrong e before after))
    ⊎ ((failures2 ≡ failures) × (encoding : List ℕ) × GivesAll before after encoding × (read encoding ≡ Err e))

-- The file that was opened, which has this mode, gave exactly the encoding of a key.
abbrev pub KeyFileGives : {V F : Type 0} → (V → List ℕ → Type 0) → (Option F → Type 0) → (F → ℕ → Type 0)
    → (F → Option (List ℕ)) → ℕ → List ℕ → Type 0
KeyFileGives Encoding Opens HasMode remaining mode encoding = (file : _) × (file2 : _) × Opens (Some file)
    × HasMode file mode × GivesAll (remaining file) (remaining file2) encoding × IsEncoded Encoding encoding

-- A file that is created with a mode, which may depend on that of the file that was read, and of the one that is
-- replaced.
abbrev pub creation_after : (ℕ → Option ℕ → ℕ) → (Option ℕ → Bool) → ℕ → List ℕ → Option ℕ → FileCall
creation_after mode umask read path replaced = created_new path (mode read replaced) (umask replaced)

-- No key was read from a file: it can't be opened; or it was, and no key was read from it.
abbrev pub WhyFileNotRead : {V F : Type 0} → Reading V → (Option F → Type 0) → (F → Option (List ℕ)) → (F → ℕ)
    → ErrorKind → Type 0
WhyFileNotRead read Opens remaining failures e =
    (Opens None × (e ≡ kind.File)) ⊎ ((file : _) × (file2 : _) × Opens (Some file)
    × WhyKeyNotRead read e (remaining file) (remaining file2) (failures file) (failures file2))

-- The path of the file that an error is about.
abbrev pub file_of : CopyError → List ℕ → List ℕ → List ℕ
file_of (Read asn1) input output = input
file_of (Write e) input output = output

-- Copying from a file to another, which may be written in these ways. These calls on files are made.
module _ {V F : Type 0} (Encoding : V → List ℕ → Type 0) (mode : ℕ → Option ℕ → ℕ) (umask : Option ℕ → Bool)
    (Opens : Option F → Type 0) (HasMode : F → ℕ → Type 0) (remaining : F → Option (List ℕ))
    (aims : List ℕ → Option Aim → Type 0) (old new : Fills) (Made : List FileCall → Type 0) (input output : List ℕ)
  where
    -- All that the opened file gave until its end is the encoding of a key, and writing that to the other file ended so.
    -- Before that the first was opened, and the other looked for.
    abbrev pub WritesKey : ((List ℕ → Option ℕ → FileCall) → (List FileCall → Type 0) → List ℕ → Type 0) → Type 0
    WritesKey Ends = (read : ℕ) × (encoding : List ℕ) × KeyFileGives Encoding Opens HasMode remaining read encoding
        × Ends (creation_after mode umask read) (λ calls. Made (opened input ∷ looked_for output ∷ calls)) encoding

    -- The other file has exactly the key.
    abbrev pub CopiesFile : Type 0
    CopiesFile = WritesKey (λ creation Calls. PutsFile aims old new creation Calls output)

    -- Why it hasn't: no key was read, and no other call was made; or the other file refused it.
    abbrev pub WhyNotCopied : Reading V → (F → ℕ) → CopyError → Option (List ℕ) → Type 0
    WhyNotCopied reading failures (Read asn1) left =
        IsAsn1 (λ e. WhyFileNotRead reading Opens remaining failures e.kind) asn1 × Made (opened input ∷ [])
        × (left ≡ None)
    WhyNotCopied reading failures (Write e) left =
        WritesKey (λ creation Calls. RefusesFile aims old new creation Calls output e left)

    -- How it ended. An error names the file that it is about.
    abbrev pub EndsCopy : {X : Type 0} → Reading V → (F → ℕ) → Result X FileError → Type 0
    EndsCopy reading failures result = MatchResult result (λ _. CopiesFile)
        (λ told. WhyNotCopied reading failures told.error (option_map path_buf_bytes told.left)
        × (path_bytes told.path ≡ file_of told.error input output))

abbrev pub write_error_text : WriteError → List ℕ
write_error_text error.Memory = codes "no memory was found"
write_error_text error.Open = codes "it can't be opened"
write_error_text error.Dangling = codes "it is a link to nothing"
write_error_text error.Create = codes "no file can be created beside it"
write_error_text error.Write = codes "a write failed"
write_error_text error.Rename = codes "the new file can't be renamed to it"
write_error_text error.Sync = codes "it is replaced, but its folder can't be synced"

abbrev pub left_text : Option (List ℕ) → List ℕ
left_text None = []
left_text (Some path) = codes ", and " ++ (path ++ codes " can't be removed")

abbrev pub file_error_text : CopyError → List ℕ → Option (List ℕ) → List ℕ
file_error_text (Read asn1) path left = (codes "reading " ++ (path ++ (codes ": " ++ error_text asn1))) ++ left_text left
file_error_text (Write e) path left = (codes "writing " ++ (path ++ (codes ": " ++ write_error_text e))) ++ left_text left
