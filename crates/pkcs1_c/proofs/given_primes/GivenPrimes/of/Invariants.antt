-- The loop of `GivenPrimes::of`: the primes so far can be held.
use Rattle.std.proofs.Common.{take}
use Rattle.pkcs1_c.specs.Words.{NoStatus, NumbersError, numbers_of_primes}
use Rattle.pkcs1_c.proofs.given_primes.GivenPrimes.of.Given as goal

abbrev pub invariant-loop-other : goal.invariant-loop-other
invariant-loop-other l = NoStatus (NumbersError (numbers_of_primes (take l.other-index l.others)))
