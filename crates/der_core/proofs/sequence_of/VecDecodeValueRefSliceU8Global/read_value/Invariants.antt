-- In the loop of `read_value`, the contents give the items so far, and then what is left gives.
use Rattle.std.proofs.Common.{length, map}
use Rattle.der_core.specs.Words.{Prints}
use Rattle.der_core.proofs.ItemsLeft.{ItemsLeft}
use Rattle.der_core.proofs.sequence_of.VecDecodeValueRefSliceU8Global.read_value.Given as goal

abbrev pub invariant-loop-left : goal.invariant-loop-left
invariant-loop-left g l =
    let t = g.T.Encoding in
    ItemsLeft (Prints t.valid t.printed t.means) g.T.Decode.may_allocate t.read_front (map t.value l.items.items)
    l.fn.contents l.left

-- Each item that is read leaves less.
abbrev pub decreases-loop-left : goal.decreases-loop-left
decreases-loop-left g l = length l.left
