-- The bytes that the iterator has left are the encodings of the primes that it has left. They are octets, as
-- `as_octets` says.
use Rattle.std.proofs.Common.{◌∙◌}
use Rattle.pkcs1.proofs.OtherPrimesHeld.{left_encoded}
use Rattle.pkcs1.proofs.other_primes.OtherPrimes.as_bytes.Goals as goal

pub returns : goal.returns
returns c = c.as_octets.ensures.same ∙ left_encoded c.args.self c.as_octets.ensures.octets
