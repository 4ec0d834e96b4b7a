-- In the loop of `prepend_items`, the encodings of the items from `left` on were received.
use Rattle.std.proofs.Common.{◌≤◌, drop, length}
use Rattle.der_core.specs.Words.{all_encodings}
use Rattle.der_core.proofs.sequence_of.prepend_items.Given as goal

abbrev pub invariant-loop-left : goal.invariant-loop-left
invariant-loop-left g l =
    (l.left ≤ length l.items) × g.W.Prepend.prepended
    (all_encodings (λ (x : g.row.T.Denot). g.T.Encoding.printed (g.T.Encoding.written (g.T.Encoding.value x))) (drop l.left l.items))
    l.fn.writer l.writer

-- Each turn writes one item.
abbrev pub decreases-loop-left : goal.decreases-loop-left
decreases-loop-left g l = l.left
