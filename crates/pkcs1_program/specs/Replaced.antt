-- Files that are written in place, or replaced by new ones.
use Rattle.std.specs.Prelude.{◌≡◌, ◌⊎◌, ◌-◌, ◌^◌, ⊤, ℕ, Bool, true, false, bit_and, List, [], ◌∷◌, ◌++◌, Option, Some, None, Result, MatchResult, Ok, Err, codes, is_none, option_map, unwrap_or}
use Rattle.std.specs.Fmt.{digits, format_spec, padded_integral}
use Rattle.std.specs.Io.KnownBytes.{Appends}
use Rattle.std.specs.Path.{path_buf_bytes, path_parent, path_with_file_name}
use Rattle.der_core.specs.Words.{AppendsFront, FileCall, FileTakes, OneFailed, opened_in_place, removed, renamed, synced, with_calls}
use Rattle.pkcs1_program.specs.declared.copy_error.WriteError.{WriteError}
use Rattle.pkcs1_program.specs.declared.copy_error.WriteError.TheVariants as error
use Rattle.pkcs1_program.specs.declared.output_file.Unwritten.{Unwritten}
use Rattle.pkcs1_program.specs.declared.replace.Target.{Target}
use Rattle.pkcs1_program.specs.declared.replace.Target.TheVariants.{Refused, Dangling, InPlace, Beside}

-- How a file is written: not at all, as it can't be or is a link to nothing; in place; or by a new file at the path
-- `beside`, which is then renamed to the path `to`, where a file of this mode is, or none.
pub data Aim : Type 0 where
  refused : Aim
  dangling : Aim
  in_place : Aim
  beside_it : (to beside : List ℕ) → (mode : Option ℕ) → Aim

abbrev pub aim_of : Target → Aim
aim_of Refused = refused
aim_of Dangling = dangling
aim_of InPlace = in_place
aim_of (Beside it) = beside_it (path_buf_bytes it.to) (path_buf_bytes it.path) it.replaced

abbrev pub aimed : {E : Type 0} → Result Target E → Option Aim
aimed (Ok target) = Some (aim_of target)
aimed (Err e) = None

-- The name of a new file: `.pkcs1_tool.`, and a number as `{:016x}` writes it.
abbrev pub new_name : ℕ → List ℕ
new_name number =
    codes ".pkcs1_tool." ++ padded_integral (format_spec 32 0 4 16 (2 ^ 64 - 1)) false [] (digits 16 false number)

-- The path of a new file in the folder of the one at this path.
abbrev pub IsNewBeside : List ℕ → List ℕ → Type 0
IsNewBeside path new = (number : ℕ) × (new ≡ path_with_file_name path (new_name number))

-- What is at a path is written by a new file in its own folder. Where nothing is, that gets the path itself.
abbrev pub AimsBeside : List ℕ → Aim → Type 0
AimsBeside path (beside_it to beside mode) = IsNewBeside to beside × (mode ≡ None → to ≡ path)
AimsBeside path aim = ⊤

-- The folder of what is at a path, from the path's parent: `.` if that names none.
abbrev pub folder_named : Option (List ℕ) → List ℕ
folder_named (Some (byte ∷ bytes)) = byte ∷ bytes
folder_named parent = codes "."

abbrev pub folder_of : List ℕ → List ℕ
folder_of path = folder_named (path_parent path)

-- The mode of a private key's new file: the owner's bits of the file that was read.
abbrev pub private_key_mode : ℕ → Option ℕ → ℕ
private_key_mode read replaced = bit_and read 0o700

abbrev pub umask_always : Option ℕ → Bool
umask_always replaced = true

-- Of a public key's: the bits of the file that it replaces or, if there is none, of the file that was read. From these
-- the umask takes.
abbrev pub public_key_mode : ℕ → Option ℕ → ℕ
public_key_mode read replaced = bit_and (unwrap_or replaced read) 0o777

abbrev pub public_key_umask : Option ℕ → Bool
public_key_umask replaced = is_none replaced

-- How writing a file ended: it has all bytes; or a write failed; or there is none.
pub data Filled : Type 0 where
  whole : Filled
  stopped : Filled
  absent : Filled

-- The sink took exactly these bytes, from this state to that in which it was closed, and was flushed then.
abbrev pub SinkTakes : {F : Type 0} → (F → Type 0) → (F → Option (List ℕ)) → (F → Type 0) → F → List ℕ → Type 0
SinkTakes IsClosed contents IsFlushed file bytes =
    (file2 : _) × IsClosed file2 × Appends (contents file) (contents file2) bytes × IsFlushed file2

-- One call of the sink failed, and it was closed when it had taken a beginning of the bytes.
abbrev pub SinkStops : {F : Type 0} → (F → Type 0) → (F → Option (List ℕ)) → (F → ℕ) → F → List ℕ → Type 0
SinkStops IsClosed contents failures file bytes =
    (file2 : _) × IsClosed file2 × AppendsFront (contents file) (contents file2) bytes
    × OneFailed (failures file) (failures file2)

-- How writing the bytes to a file at the path ended.
abbrev pub Fills : Type 1
Fills = List ℕ → Filled → List ℕ → Type 0

-- A file was created at the path, and took the bytes, or one call of it failed; or none was created.
abbrev pub FillsFile : {F : Type 0} → (List ℕ → Option F → Type 0) → (F → Type 0) → (F → Option (List ℕ))
    → (F → Type 0) → (F → ℕ) → Fills
FillsFile creates IsClosed contents IsFlushed failures path whole bytes =
    FileTakes (creates path) IsClosed contents IsFlushed bytes
FillsFile creates IsClosed contents IsFlushed failures path stopped bytes =
    (file : _) × creates path (Some file) × SinkStops IsClosed contents failures file bytes
FillsFile creates IsClosed contents IsFlushed failures path absent bytes = creates path None

-- Exactly these calls were made, in order, between the one state and the other.
abbrev pub MakesCalls : Option (List FileCall) → Option (List FileCall) → List FileCall → Type 0
MakesCalls before after calls = after ≡ with_calls before calls

-- A new file was removed, or is left, after these calls.
abbrev pub Removes : (List FileCall → Type 0) → (Bool → List FileCall) → List ℕ → Option (List ℕ) → Type 0
Removes Made calls beside None = Made (calls true)
Removes Made calls beside (Some left) = Made (calls false) × (left ≡ beside)

-- A new file at the path `beside`, created by such a call, is to take the place of one at the path `to` that has this
-- mode, or of none. These calls are made.
module _ (new : Fills) (creation : List ℕ → Option ℕ → FileCall) (Made : List FileCall → Type 0)
    (to beside : List ℕ) (mode : Option ℕ) where
  -- It took the bytes, and was renamed to that path, whose folder the disk has.
  abbrev pub PutsBeside : List ℕ → Type 0
  PutsBeside bytes =
      new beside whole bytes × Made (creation beside mode ∷ renamed beside to true ∷ synced to true ∷ [])

  -- Why it doesn't take that place, and which new file is left. One that isn't whole, or can't be renamed, is removed, if
  -- that succeeds. If only the wait for the disk fails, it has the other's place.
  abbrev pub RefusesBeside : WriteError → Option (List ℕ) → List ℕ → Type 0
  RefusesBeside error.Create None bytes = new beside absent bytes × Made (creation beside mode ∷ [])
  RefusesBeside error.Write left bytes = new beside stopped bytes
      × Removes Made (λ done. creation beside mode ∷ removed beside done ∷ []) beside left
  RefusesBeside error.Rename left bytes = new beside whole bytes
      × Removes Made (λ done. creation beside mode ∷ renamed beside to false ∷ removed beside done ∷ []) beside left
  RefusesBeside error.Sync None bytes =
      new beside whole bytes × Made (creation beside mode ∷ renamed beside to true ∷ synced to false ∷ [])
  RefusesBeside e left bytes = ⊥

  abbrev pub EndsBeside : {X : Type 0} → List ℕ → Result X Unwritten → Type 0
  EndsBeside bytes result = MatchResult result (λ _. PutsBeside bytes)
      (λ why. RefusesBeside why.error (option_map path_buf_bytes why.left) bytes)

-- Writing bytes to the file at a path, by these calls.
module _ (aims : List ℕ → Option Aim → Type 0) (old new : Fills) (creation : List ℕ → Option ℕ → FileCall)
    (Made : List FileCall → Type 0) (path : List ℕ) where
  -- The file has the bytes.
  abbrev pub PutsAt : Aim → List ℕ → Type 0
  PutsAt in_place bytes = old path whole bytes × Made (opened_in_place path ∷ [])
  PutsAt (beside_it to beside mode) bytes = PutsBeside new creation Made to beside mode bytes
  PutsAt aim bytes = ⊥

  abbrev pub PutsFile : List ℕ → Type 0
  PutsFile bytes = (aim : Aim) × aims path (Some aim) × PutsAt aim bytes

  -- Why it hasn't, and which new file is left.
  abbrev pub RefusesAt : WriteError → Option (List ℕ) → Aim → List ℕ → Type 0
  RefusesAt e left refused bytes = (e ≡ error.Open) × (left ≡ None) × Made []
  RefusesAt e left dangling bytes = (e ≡ error.Dangling) × (left ≡ None) × Made []
  RefusesAt e left in_place bytes = (((e ≡ error.Open) × old path absent bytes)
      ⊎ ((e ≡ error.Write) × old path stopped bytes)) × (left ≡ None) × Made (opened_in_place path ∷ [])
  RefusesAt e left (beside_it to beside mode) bytes = RefusesBeside new creation Made to beside mode e left bytes

  abbrev pub RefusesFile : WriteError → Option (List ℕ) → List ℕ → Type 0
  RefusesFile e left bytes = ((e ≡ error.Memory) × (left ≡ None) × aims path None × Made [])
      ⊎ ((aim : Aim) × aims path (Some aim) × RefusesAt e left aim bytes)

  abbrev pub EndsWriting : {X : Type 0} → List ℕ → Result X Unwritten → Type 0
  EndsWriting bytes result = MatchResult result (λ _. PutsFile bytes)
      (λ why. RefusesFile why.error (option_map path_buf_bytes why.left) bytes)
