-- At the end of `encode_value`: `value_len` returned `Ok`, so the value is valid, and `append_value` gives no `Value`.
use Rattle.der_core.proofs.Writing.{not_refused}
use Rattle.der_core.proofs.encode.EncodeValue.encode_value.Goals as goal

pub returns-clause-tag : goal.returns-clause-tag
returns-clause-tag g c = not_refused _ _ c.in_ok-value_len.ensures.counts.0 c.append_value.ensures.appends
