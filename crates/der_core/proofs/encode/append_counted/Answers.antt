-- At the end of `append_counted`: `counted_len` returned `Ok`, so the value is valid, and `append` gives no `Value`.
use Rattle.der_core.proofs.Writing.{not_refused}
use Rattle.der_core.proofs.encode.append_counted.Goals as goal

pub returns-clause-tag : goal.returns-clause-tag
returns-clause-tag g c = not_refused _ _ c.in_ok-counted_len.ensures.counted.0 c.append.ensures.appends
