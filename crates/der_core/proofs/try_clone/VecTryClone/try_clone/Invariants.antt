-- `try_clone` of `Vec<T>`: the copies so far have the values of the items that they are made of.
use Rattle.std.proofs.Common.{◌≡◌, map, take}
use Rattle.der_core.proofs.try_clone.VecTryClone.try_clone.Given as goal

abbrev pub invariant-loop-item : goal.invariant-loop-item
invariant-loop-item g l =
    map g.T.Encoding.value l.copies.items ≡ map g.T.Encoding.value (take l.item-index l.fn.self.items)
