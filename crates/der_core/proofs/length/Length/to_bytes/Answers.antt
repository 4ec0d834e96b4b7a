-- `to_bytes` returns what `octets` does, which `length_octets` gives. By the rules of DER, `IsLength`, these are the
-- length octets of `self`, which is within the limit.
use Rattle.std.proofs.Common.{arith}
use Rattle.der_core.specs.Words.{length_octets-within}
use Rattle.der_core.proofs.length.Length.to_bytes.Goals as goal

pub returns-clause-counted : goal.returns-clause-counted
returns-clause-counted c = rw c.octets.ensures.written (length_octets-within _ (omega arith))
