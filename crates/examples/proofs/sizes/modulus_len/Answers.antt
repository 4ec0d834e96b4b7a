-- `modulus_len` gives the length of the modulus of the only key that the container has.
use Rattle.std.proofs.Common.{rules}
use Rattle.der_core.specs.Words.{number_octets}
use Rattle.examples.proofs.sizes.modulus_len.Goals as goal

-- The key is the one that was read. The octets of its modulus are the bytes that it holds.
pub returns-clause-ok : goal.returns-clause-ok
returns-clause-ok c = (_, c.in_ok-key.ensures.read, search (rules, number_octets))
