-- Worked rows of `Replaced.antt` of `pkcs1_program`: how a file is written, and which calls on files that takes.
use Rattle.std.proofs.Common.{ℕ, List, [], ◌∷◌, ◌≡◌, ◌⊎◌, refl, true, false, Option, Some, None}
use Rattle.std.specs.Io.KnownBytes.{Appends}
use Rattle.std.specs.Prelude.{◌↔◌}
use Rattle.der_core.specs.Words.{AppendsFront, FileCall, FileTakes, OneFailed, opened, opened_in_place, removed, renamed, synced}
use Rattle.pkcs1_program.specs.Replaced.{Aim, Fills, FillsFile, MakesCalls, PutsAt, PutsBeside, PutsFile, RefusesAt, RefusesBeside, RefusesFile, Removes, SinkStops, SinkTakes, absent, beside_it, dangling, in_place, private_key_mode, public_key_mode, public_key_umask, refused, stopped, umask_always, whole}
use Rattle.pkcs1_program.specs.declared.copy_error.WriteError.{WriteError}
use Rattle.pkcs1_program.specs.declared.copy_error.WriteError.TheVariants as error

-- 0o644, 0o700 and 0o7777 as modes.
modes_of_keys : (private_key_mode 420 None ≡ 384) × (private_key_mode 448 (Some 511) ≡ 448)
    × (public_key_mode 420 None ≡ 420) × (public_key_mode 4095 (Some 384) ≡ 384) × (public_key_mode 4095 None ≡ 511)
modes_of_keys = (refl, refl, refl, refl, refl)

umask_of_keys : (umask_always (Some 0) ≡ true) × (umask_always None ≡ true) × (public_key_umask (Some 0) ≡ false)
    × (public_key_umask None ≡ true)
umask_of_keys = (refl, refl, refl, refl)

module _ {F : Type 0} (creates : List ℕ → Option F → Type 0) (IsClosed : F → Type 0) (contents : F → Option (List ℕ))
    (IsFlushed : F → Type 0) (failures : F → ℕ) (path bytes : List ℕ) (file : F) where
  sink_took : SinkTakes IsClosed contents IsFlushed file bytes
      ↔ ((file2 : F) × IsClosed file2 × Appends (contents file) (contents file2) bytes × IsFlushed file2)
  sink_took = (λ p. p, λ p. p)

  sink_stopped : SinkStops IsClosed contents failures file bytes
      ↔ ((file2 : F) × IsClosed file2 × AppendsFront (contents file) (contents file2) bytes
      × OneFailed (failures file) (failures file2))
  sink_stopped = (λ p. p, λ p. p)

  file_filled : (FillsFile creates IsClosed contents IsFlushed failures path whole bytes
      ↔ FileTakes (creates path) IsClosed contents IsFlushed bytes)
      × (FillsFile creates IsClosed contents IsFlushed failures path stopped bytes
      ↔ ((it : F) × creates path (Some it) × SinkStops IsClosed contents failures it bytes))
      × (FillsFile creates IsClosed contents IsFlushed failures path absent bytes ↔ creates path None)
  file_filled = ((λ p. p, λ p. p), (λ p. p, λ p. p), (λ p. p, λ p. p))

calls_made : (path : List ℕ) (after : Option (List FileCall))
    → MakesCalls (Some (opened path ∷ [])) after (opened_in_place path ∷ removed path true ∷ [])
    ↔ (after ≡ Some (opened path ∷ opened_in_place path ∷ removed path true ∷ []))
calls_made path after = (λ p. p, λ p. p)

module _ (aims : List ℕ → Option Aim → Type 0) (old new : Fills) (creation : List ℕ → Option ℕ → FileCall)
    (Made : List FileCall → Type 0) (path to beside bytes : List ℕ) (mode : Option ℕ) (left : Option (List ℕ)) where
  abbrev created_beside : FileCall
  created_beside = creation beside mode

  file_removed : (calls : _) → (Removes Made calls beside None ↔ Made (calls true))
      × (Removes Made calls beside (Some path) ↔ (Made (calls false) × (path ≡ beside)))
  file_removed calls = ((λ p. p, λ p. p), (λ p. p, λ p. p))

  put_beside : PutsBeside new creation Made to beside mode bytes ↔ (new beside whole bytes
      × Made (created_beside ∷ renamed beside to true ∷ synced to true ∷ []))
  put_beside = (λ p. p, λ p. p)

  write_failed_beside : RefusesBeside new creation Made to beside mode error.Write None bytes
      ↔ (new beside stopped bytes × Made (created_beside ∷ removed beside true ∷ []))
  write_failed_beside = (λ p. p, λ p. p)

  rename_failed_beside : RefusesBeside new creation Made to beside mode error.Rename None bytes
      ↔ (new beside whole bytes × Made (created_beside ∷ renamed beside to false ∷ removed beside true ∷ []))
  rename_failed_beside = (λ p. p, λ p. p)

  none_created_beside : (RefusesBeside new creation Made to beside mode error.Create None bytes
      ↔ (new beside absent bytes × Made (created_beside ∷ [])))
      × (RefusesBeside new creation Made to beside mode error.Create (Some path) bytes → ⊥)
  none_created_beside = ((λ p. p, λ p. p), (λ p. p))

  not_synced_beside : RefusesBeside new creation Made to beside mode error.Sync None bytes
      ↔ (new beside whole bytes × Made (created_beside ∷ renamed beside to true ∷ synced to false ∷ []))
  not_synced_beside = (λ p. p, λ p. p)

  put_at : (PutsAt aims old new creation Made path in_place bytes
      ↔ (old path whole bytes × Made (opened_in_place path ∷ [])))
      × (PutsAt aims old new creation Made path (beside_it to beside mode) bytes
      ↔ PutsBeside new creation Made to beside mode bytes)
      × (PutsAt aims old new creation Made path refused bytes → ⊥)
      × (PutsAt aims old new creation Made path dangling bytes → ⊥)
  put_at = ((λ p. p, λ p. p), (λ p. p, λ p. p), (λ p. p), (λ p. p))

  file_put : PutsFile aims old new creation Made path bytes
      ↔ ((aim : Aim) × aims path (Some aim) × PutsAt aims old new creation Made path aim bytes)
  file_put = (λ p. p, λ p. p)

  refused_at : (e : WriteError) → (RefusesAt aims old new creation Made path e left refused bytes
      ↔ ((e ≡ error.Open) × (left ≡ None) × Made []))
      × (RefusesAt aims old new creation Made path e left dangling bytes
      ↔ ((e ≡ error.Dangling) × (left ≡ None) × Made []))
  refused_at e = ((λ p. p, λ p. p), (λ p. p, λ p. p))

  refused_in_place : (e : WriteError) → RefusesAt aims old new creation Made path e left in_place bytes
      ↔ ((((e ≡ error.Open) × old path absent bytes) ⊎ ((e ≡ error.Write) × old path stopped bytes)) × (left ≡ None)
      × Made (opened_in_place path ∷ []))
  refused_in_place e = (λ p. p, λ p. p)

  file_not_put : (e : WriteError) → RefusesFile aims old new creation Made path e left bytes
      ↔ (((e ≡ error.Memory) × (left ≡ None) × aims path None × Made [])
      ⊎ ((aim : Aim) × aims path (Some aim) × RefusesAt aims old new creation Made path e left aim bytes))
  file_not_put e = (λ p. p, λ p. p)
