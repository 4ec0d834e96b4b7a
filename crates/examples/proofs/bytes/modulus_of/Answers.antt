-- `modulus_of` gives the modulus of the only key that the slice encodes.
use Rattle.std.proofs.Common.{rules}
use Rattle.der_core.specs.Words.{number_octets}
use Rattle.examples.proofs.bytes.modulus_of.Goals as goal

-- The key is the one that was read. The octets of its modulus are the bytes that it holds.
pub returns-clause-ok : goal.returns-clause-ok
returns-clause-ok c = (_, c.in_ok-key.ensures.read, search (rules, number_octets))
