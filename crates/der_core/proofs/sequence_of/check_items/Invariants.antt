-- In the loop of `check_items`, the items so far have encodings.
use Rattle.std.proofs.Common.{take}
use Rattle.der_core.specs.Words.{AllHave}
use Rattle.der_core.proofs.sequence_of.check_items.Given as goal

abbrev pub invariant-loop-item : goal.invariant-loop-item
invariant-loop-item g l =
    AllHave (λ (x : g.row.T.Denot). g.T.Encoding.valid (g.T.Encoding.written (g.T.Encoding.value x)))
    (take l.item-index l.items)
