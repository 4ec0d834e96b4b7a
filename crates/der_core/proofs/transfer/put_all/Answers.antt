-- `put_all`, at the arm `Ok(count)`: the sink took the first `count` bytes behind `done`, and no call failed.
use Rattle.std.proofs.Common.{arith, length-drop, length-take}
use Rattle.std.proofs.Math.Seq.{take-add}
use Rattle.std.proofs.lemmas.List.{take_rest}
use Rattle.std.proofs.KnownBytes.{Appends-trans}
use Rattle.der_core.proofs.transfer.put_all.Goals as goal

pub loop-done-preserved : goal.loop-done-preserved
loop-done-preserved g c =
    let before = c.loop-done.invariant in
    record {
      within = omega (arith, simp (length-take, length-drop) at c.in-Ok.ensures.bound);
      taken = rw take-add (Appends-trans _ _ _ _ _ before.taken (rw take_rest at c.in-Ok.ensures.bytes));
      faults = cc (c.in-Ok.ensures.faults);
    }
