-- Files that are opened and created, and what they give and take.
use Rattle.std.specs.Prelude.{◌≡◌, ◌⊎◌, ℕ, Bool, List, [], ◌∷◌, ◌++◌, Option, Some, None, Result, Ok, Err, option_map}
use Rattle.std.specs.Io.KnownBytes.{Appends}
use Rattle.der_core.specs.declared.error.Error.{Error}
use Rattle.der_core.specs.declared.error.ErrorKind.{ErrorKind}
use Rattle.der_core.specs.declared.error.ErrorKind.TheVariants.{File}
use Rattle.der_core.specs.Errors.{IsFile}
use Rattle.der_core.specs.Transfer.{WhyDocumentNotRead}
use Rattle.der_core.specs.SourcesSinks.{AppendsFront, GivesAll, OneFailed}

-- A call on files, by their paths: a file was opened; created or truncated; looked for; opened for writing as it is;
-- created where none was, with these bits of a mode, from which the umask takes or doesn't; renamed; waited for, until
-- the disk has its name; or removed. The last three also say whether they succeeded. Whether the others did, the
-- relations of a `FileSystem` say.
pub data FileCall : Type 0 where
  opened : (path : List ℕ) → FileCall
  created : (path : List ℕ) → FileCall
  looked_for : (path : List ℕ) → FileCall
  opened_in_place : (path : List ℕ) → FileCall
  created_new : (path : List ℕ) → (mode : ℕ) → (umask_takes : Bool) → FileCall
  renamed : (from to : List ℕ) → (done : Bool) → FileCall
  synced : (path : List ℕ) → (done : Bool) → FileCall
  removed : (path : List ℕ) → (done : Bool) → FileCall

-- The calls so far, if they are reported, and one more.
abbrev pub with_call : Option (List FileCall) → FileCall → Option (List FileCall)
with_call calls call = option_map (λ made. made ++ (call ∷ [])) calls

-- The calls so far, and these in order.
abbrev pub with_calls : Option (List FileCall) → List FileCall → Option (List FileCall)
with_calls calls [] = calls
with_calls calls (call ∷ more) = with_calls (with_call calls call) more

-- A file was obtained; or none was, and the error is `File`.
abbrev pub Obtains : {F : Type 0} → (Option F → Type 0) → Result F Error → Type 0
Obtains Is (Ok file) = Is (Some file)
Obtains Is (Err e) = Is None × IsFile e

-- The file that was opened gave exactly these bytes, from the state in which it was opened up to its end.
abbrev pub FileGives : {F : Type 0} → (Option F → Type 0) → (F → Option (List ℕ)) → List ℕ → Type 0
FileGives Opens remaining bytes =
    (file : _) × (file2 : _) × Opens (Some file) × GivesAll (remaining file) (remaining file2) bytes

-- Why no document is read from a file: it can't be opened; or one call of the opened file failed, or none did, and what it
-- gave is no document.
abbrev pub FileFault : {F : Type 0} → (Option F → Type 0) → (F → Option (List ℕ)) → (F → ℕ) → ErrorKind → Type 0
FileFault Opens remaining failures e =
    (Opens None × (e ≡ File)) ⊎ ((file : _) × (file2 : _) × Opens (Some file)
    × WhyDocumentNotRead e (remaining file) (remaining file2) (failures file) (failures file2))

-- The file that was created took exactly these bytes, from the state in which it was created to that in which it was
-- closed, and was flushed then.
abbrev pub FileTakes : {F : Type 0} → (Option F → Type 0) → (F → Type 0) → (F → Option (List ℕ)) → (F → Type 0)
    → List ℕ → Type 0
FileTakes Creates IsClosed contents IsFlushed bytes =
    (file : _) × (file2 : _) × Creates (Some file) × IsClosed file2
    × Appends (contents file) (contents file2) bytes × IsFlushed file2

-- Why the bytes aren't written to a file: it can't be created; or one call of it failed, and it was closed when it had
-- taken a beginning of them.
abbrev pub FileRefuses : {F : Type 0} → (Option F → Type 0) → (F → Type 0) → (F → Option (List ℕ)) → (F → ℕ)
    → List ℕ → Type 0
FileRefuses Creates IsClosed contents failures bytes =
    Creates None ⊎ ((file : _) × (file2 : _) × Creates (Some file) × IsClosed file2
    × AppendsFront (contents file) (contents file2) bytes × OneFailed (failures file) (failures file2))
