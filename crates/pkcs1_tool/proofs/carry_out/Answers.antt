-- `carry_out`: its status is 0 only behind a call that succeeded, and so what that call promises holds.
use Rattle.std.proofs.Common.{◌≡◌, ◌∙◌, ℕ, is_ok, sym, arith, Result, MatchResult, Ok, Err, OnOk, if◌then◌else◌}
use Rattle.pkcs1_tool.proofs.carry_out.Goals.{in-Usage, in-Lines, in-CopyPub, in-CopyPriv}
use Rattle.pkcs1_tool.proofs.carry_out.Goals as goal

-- What is promised of a success holds if the status is 0.
done_by : {T E : Type 0} (P : Type 0) (r : Result T E) (status : ℕ) → status ≡ (if is_ok r then 0 else 1)
    → OnOk r P → status ≡ 0 → P
done_by P (Ok x) status is h zero = h
done_by P (Err e) status is h zero =
    let one : status ≡ 1 = is in
    absurd (omega (arith, one, zero))

-- A copy that ended well copied the file.
copied_by : {X E : Type 0} (Copied : Type 0) (Failed : E → Type 0) (r : Result X E)
    → MatchResult r (λ _. Copied) Failed → OnOk r Copied
copied_by Copied Failed (Ok x) copied = copied
copied_by Copied Failed (Err e) why = tt

pub returns-clause-done : goal.returns-clause-done
returns-clause-done g c zero =
    elim c.match-plan.branch [
      | in-Usage w ↦
          let two : 2 ≡ 0 = rw w.in-Usage.is at (sym c.status.ensures ∙ zero) in
          absurd (omega (arith, two))
      | in-Lines w ↦
          let is : c.status.result ≡ (if is_ok w.run.result then 0 else 1) =
          rw (w.in-Lines.is, w.ok-is, w.reported-ok-in-Lines.ensures) at c.status.ensures in
          let written = done_by _ w.run.result c.status.result is w.run.ensures.some zero in
          let flushed = done_by _ w.run.result c.status.result is w.run.ensures.flushed zero in
          rw (w.in-Lines.is, w.source-is, w.sink-is) (written.0, written.2, written.3, flushed)
      | in-CopyPub w ↦
          let is : c.status.result ≡ (if is_ok w.copy_pub.result then 0 else 1) =
          rw (w.in-CopyPub.is, w.ok-is, w.reported-ok-in-CopyPub.ensures) at c.status.ensures in
          let copied = done_by _ w.copy_pub.result c.status.result is
          (copied_by _ _ w.copy_pub.result w.copy_pub.ensures) zero in
          rw (w.in-CopyPub.is, w.files-is) (rw (w.new-input.ensures, w.new-output.ensures) at copied)
      | in-CopyPriv w ↦
          let is : c.status.result ≡ (if is_ok w.copy_priv.result then 0 else 1) =
          rw (w.in-CopyPriv.is, w.ok-is, w.reported-ok-in-CopyPriv.ensures) at c.status.ensures in
          let copied = done_by _ w.copy_priv.result c.status.result is
          (copied_by _ _ w.copy_priv.result w.copy_priv.ensures) zero in
          rw (w.in-CopyPriv.is, w.files-is) (rw (w.new-input-in-CopyPriv.ensures, w.new-output-in-CopyPriv.ensures) at copied)
    ]
