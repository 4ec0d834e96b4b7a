-- The input is what `read_all` has read, the output what `long_entries` has made of it. `as_slice` and `as_slice-2` are
-- these two as slices.
use Rattle.std.proofs.Common.{subst}
use Rattle.std.specs.Io.KnownBytes.{Appends}
use Rattle.der_core.specs.Words.{AppendsFront, OneFailed}
use Rattle.examples.specs.KeyStore.{Copies}
use Rattle.examples.proofs.KeyStore.{all_taken, flushed}
use Rattle.examples.proofs.key_store.copy_long_keys.Goals as goal

-- `put_all` has failed: the sink took a beginning of the output.
pub returns-in-Err-put_all-clause-write : goal.returns-in-Err-put_all-clause-write
returns-in-Err-put_all-clause-write g c = λ _. (
  c.in-Ok.store.items,
  c.in_ok-kept.kept.items,
  subst (λ input. Copies input c.in_ok-kept.kept.items) c.as_slice.ensures.value c.in_ok-kept.ensures.ok,
  c.in-Ok.ensures.all,
  subst (AppendsFront (g.W.Sink.contents c.args.sink.now) (g.W.Sink.contents c.put_all.new.sink))
      c.as_slice-2.ensures.value c.in-Err-put_all.ensures.0,
  c.in-Err-put_all.ensures.2,
)

-- `put_all` has written the output, which stays at the flush.
pub returns-in-Ok-flush-clause-ok : goal.returns-in-Ok-flush-clause-ok
returns-in-Ok-flush-clause-ok g c = (
  c.in-Ok.store.items,
  c.in_ok-kept.kept.items,
  subst (λ input. Copies input c.in_ok-kept.kept.items) c.as_slice.ensures.value c.in_ok-kept.ensures.ok,
  c.in-Ok.ensures.all,
  flushed _ _ _ c.in_ok-kept.kept.items
      (subst (Appends (g.W.Sink.contents c.args.sink.now) (g.W.Sink.contents c.put_all.new.sink))
      c.as_slice-2.ensures.value c.in-Ok-put_all.ensures.0) c.flush.ensures.bytes,
)

-- The last arm: `flush` has failed. The sink took the whole output, which is a beginning of it.
pub returns-clause-write : goal.returns-clause-write
returns-clause-write g c = λ _. (
  c.in-Ok.store.items,
  c.in_ok-kept.kept.items,
  subst (λ input. Copies input c.in_ok-kept.kept.items) c.as_slice.ensures.value c.in_ok-kept.ensures.ok,
  c.in-Ok.ensures.all,
  all_taken _ _ c.in_ok-kept.kept.items
      (flushed _ _ _ c.in_ok-kept.kept.items
      (subst (Appends (g.W.Sink.contents c.args.sink.now) (g.W.Sink.contents c.put_all.new.sink))
      c.as_slice-2.ensures.value c.in-Ok-put_all.ensures.0) c.flush.ensures.bytes),
  subst (λ f. OneFailed f (g.W.Sink.failures c.flush.new.self)) c.in-Ok-put_all.ensures.1 c.in-Err-flush.ensures.faults,
)
