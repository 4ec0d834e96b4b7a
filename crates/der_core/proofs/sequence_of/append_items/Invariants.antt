-- In the loop of `append_items`, the encodings of the items so far were written, and took their room.
use Rattle.std.proofs.Common.{length, take}
use Rattle.der_core.specs.Words.{Receives, TakesRoom, all_encodings}
use Rattle.der_core.proofs.sequence_of.append_items.Given as goal

abbrev pub invariant-loop-item : goal.invariant-loop-item
invariant-loop-item g l = record {
  written : Receives
      (all_encodings (λ (x : g.row.T.Denot). g.T.Encoding.printed (g.T.Encoding.written (g.T.Encoding.value x)))
      (take l.item-index l.items)) (g.W.Writer.written l.fn.writer) (g.W.Writer.written l.writer);
  room : TakesRoom (length
      (all_encodings (λ (x : g.row.T.Denot). g.T.Encoding.printed (g.T.Encoding.written (g.T.Encoding.value x)))
      (take l.item-index l.items))) (g.W.Writer.room l.fn.writer) (g.W.Writer.room l.writer);
  kept : g.W.Writer.keeps l.fn.writer l.writer;
}
