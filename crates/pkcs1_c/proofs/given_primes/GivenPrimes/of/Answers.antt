-- `GivenPrimes::of`: all primes can be held, or its error is that of the first number that can't be.
use Rattle.std.proofs.Common.{◌<◌, arith, rules, length}
use Rattle.pkcs1_c.proofs.GivenKeys.{given_primes_some}
use Rattle.pkcs1_c.proofs.StructErrors.{numbers_rejected_at, others_held_more}
use Rattle.pkcs1_c.proofs.given_primes.GivenPrimes.of.Goals as goal

-- `from_c_other_prime` says that the numbers of one prime more can be held.
pub loop-other-preserved : goal.loop-other-preserved
loop-other-preserved c =
    others_held_more c.args.others.now c.loop-other.other-index _ c.loop-other-test.true c.loop-other.invariant
    c.in_ok-from_c_other_prime.ensures.held

-- At the `?` after `from_c_other_prime`: it tells of a number of this prime. All primes before it can be held.
pub returns-in_err-from_c_other_prime-clause-err : goal.returns-in_err-from_c_other_prime-clause-err
returns-in_err-from_c_other_prime-clause-err c =
    let rejected = numbers_rejected_at c.args.others.now c.loop-other.other-index _ c.loop-other-test.true _
    c.loop-other.invariant c.in_err-from_c_other_prime.ensures.err in search rules

-- At the end: the array isn't empty, so the struct means a list of primes.
pub returns-clause-ok : goal.returns-clause-ok
returns-clause-ok c =
    let some : 0 < length c.args.others.now = grind arith in
    given_primes_some c.args.others.now some
