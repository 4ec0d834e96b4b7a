-- In the loop of `long_entries`, the rest is behind some keys, and the long ones of them were kept.
use Rattle.std.proofs.Common.{length}
use Rattle.examples.proofs.KeyStore.{Walked}
use Rattle.examples.proofs.key_store.long_entries.Given as goal

abbrev pub invariant-loop-rest : goal.invariant-loop-rest
invariant-loop-rest l = Walked l.store l.rest l.kept.items

abbrev pub decreases-loop-rest : goal.decreases-loop-rest
decreases-loop-rest l = length l.rest
