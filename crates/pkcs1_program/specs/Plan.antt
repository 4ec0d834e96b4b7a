-- What the arguments ask for, and the exit status.
use Rattle.std.specs.Prelude.{ℕ, List, [], ◌∷◌, Bool, if◌then◌else◌, bytes_eq, codes}
use Rattle.pkcs1_program.specs.declared.plan.Plan.{Plan}
use Rattle.pkcs1_program.specs.declared.plan.Plan.TheVariants.{Lines, Usage, CopyPub, CopyPriv}

-- What is asked for.
pub data Task : Type 0 where
  lines : Task
  usage : Task
  copy_pub : (input output : List ℕ) → Task
  copy_priv : (input output : List ℕ) → Task

abbrev pub task_of : Plan → Task
task_of Lines = lines
task_of Usage = usage
task_of (CopyPub input output) = copy_pub input.now output.now
task_of (CopyPriv input output) = copy_priv input.now output.now

-- `copy pub IN OUT`, `copy priv IN OUT`, or no word.
abbrev pub planned_by : List (List ℕ) → Task
planned_by [] = lines
planned_by (a ∷ []) = usage
planned_by (a ∷ b ∷ []) = usage
planned_by (a ∷ b ∷ c ∷ []) = usage
planned_by (a ∷ b ∷ input ∷ output ∷ []) =
    if bytes_eq a (codes "copy") then
    (if bytes_eq b (codes "pub") then copy_pub input output
    else if bytes_eq b (codes "priv") then copy_priv input output
    else usage)
    else usage
planned_by (a ∷ b ∷ c ∷ d ∷ e ∷ more) = usage

abbrev pub exit_status_of : Plan → Bool → ℕ
exit_status_of Usage ok = 2
exit_status_of Lines ok = if ok then 0 else 1
exit_status_of (CopyPub input output) ok = if ok then 0 else 1
exit_status_of (CopyPriv input output) ok = if ok then 0 else 1

-- What was asked for is done: the lines are answered, or the file is copied.
abbrev pub IsDone : Plan → Type 0 → (List ℕ → List ℕ → Type 0) → (List ℕ → List ℕ → Type 0) → Type 0
IsDone Lines Answered CopiedPub CopiedPriv = Answered
IsDone Usage Answered CopiedPub CopiedPriv = ⊥
IsDone (CopyPub input output) Answered CopiedPub CopiedPriv = CopiedPub input.now output.now
IsDone (CopyPriv input output) Answered CopiedPub CopiedPriv = CopiedPriv input.now output.now
