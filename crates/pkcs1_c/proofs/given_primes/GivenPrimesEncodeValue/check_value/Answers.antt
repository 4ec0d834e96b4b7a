-- `check_value` of `GivenPrimes`: each of its primes has an encoding.
use Rattle.pkcs1_c.proofs.GivenKeys.{given_primes_valid}
use Rattle.pkcs1_c.proofs.given_primes.GivenPrimesEncodeValue.check_value.Goals as goal

pub returns-clause-checks : goal.returns-clause-checks
returns-clause-checks c = given_primes_valid c.args.self.now.others.now
