-- `read_value` of `OtherPrimes`. `count_others` counted the primes of the contents, and the iterator holds these contents,
-- so reading them gives what it has left.
use Rattle.std.proofs.Common.{refl}
use Rattle.pkcs1.proofs.OtherPrimesHeld.{held_primes_read}
use Rattle.pkcs1.proofs.other_primes.OtherPrimesDecodeValueRefSliceU8.read_value.Goals as goal

pub returns : goal.returns
returns g c = held_primes_read _ _ refl
