-- Both answers are in the arm of at least four octets, `in-len4-up`. `cut` is what `split_at_checked` has given there,
-- and `front` says that the store is a length, its octets, and those behind. Each octet is below 256, by
-- `type_inv.store`.
use Rattle.std.proofs.Common.{rules}
use Rattle.examples.proofs.KeyStore.{in_front, no_entry_begins}
use Rattle.examples.proofs.key_store.first_entry.Goals as goal

-- The octets of the length encode the key that was read.
pub returns-in-Ok-clause-some : goal.returns-in-Ok-clause-some
returns-in-Ok-clause-some c =
    let cut = c.in_ok-encoding-in-len4-up in
    let front =
    in_front c.args.store.now cut.encoding.now cut.behind.now c.from_be_bytes-len.result c.in-len4-up.len_at_least
    (search rules) c.from_be_bytes-len.ensures cut.ensures.cases in
    (cut.encoding.now, c.in-Ok.ensures.read, front.0)

-- They encode no key, so no entry is in front.
pub returns-in-Err-clause-none : goal.returns-in-Err-clause-none
returns-in-Err-clause-none c =
    let cut = c.in_ok-encoding-in-len4-up in
    let front =
    in_front c.args.store.now cut.encoding.now cut.behind.now c.from_be_bytes-len.result c.in-len4-up.len_at_least
    (search rules) c.from_be_bytes-len.ensures cut.ensures.cases in
    λ _. no_entry_begins c.args.store.now cut.encoding.now cut.behind.now front c.in-Err.ensures.read
