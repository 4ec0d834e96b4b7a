-- `size_hint` of `Iterator` for `OtherPrimes`. Both bounds are `left`, which is the number of primes that the iterator
-- holds, as `left_counted` says.
use Rattle.std.proofs.Common.{Some, ap, arith}
use Rattle.pkcs1.proofs.OtherPrimesHeld.{left_counted}
use Rattle.pkcs1.proofs.other_primes.OtherPrimesIterator.size_hint.Goals as goal

pub returns-clause-least : goal.returns-clause-least
returns-clause-least c = left_counted c.args.self.now

pub returns-clause-most : goal.returns-clause-most
returns-clause-most c = ap (λ n. Some n) (left_counted c.args.self.now)

pub returns-clause-lower : goal.returns-clause-lower
returns-clause-lower c some = omega (arith, left_counted c.args.self.now)

pub returns-clause-upper : goal.returns-clause-upper
returns-clause-upper c = (tt, omega (arith, left_counted c.args.self.now))
