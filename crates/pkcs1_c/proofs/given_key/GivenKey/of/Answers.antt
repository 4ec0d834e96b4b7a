-- `GivenKey::of`: it has the numbers of the struct, or its error is that of the first that can't be held.
use Rattle.std.proofs.Common.{arith, rules}
use Rattle.std.proofs.lemmas.Grind.{common_steps}
use Rattle.pkcs1_c.specs.Words.{numbers_of_primes, numbers_of_key}
use Rattle.pkcs1_c.proofs.StructErrors.{numbers_behind, numbers_none_both, numbers_none_held}
use Rattle.pkcs1_c.proofs.given_key.GivenKey.of.Goals as goal

-- `GivenPrimes::of` has failed. The eight numbers of the struct can be held, so the first that can't is one of a prime.
pub returns-in_err-of-clause-err : goal.returns-in_err-of-clause-err
returns-in_err-of-clause-err c =
    let told = numbers_behind (numbers_of_key c.args.key.now) (numbers_of_primes c.args.others.now)
    (numbers_none_held (numbers_of_key c.args.key.now) (search rules)) _ c.in_err-of.ensures.err in search rules

-- At Ok each call of `number` has said it of one of the eight, and `GivenPrimes::of` of those of the other primes.
pub returns-clause-held : goal.returns-clause-held
returns-clause-held c =
    numbers_none_both (numbers_of_key c.args.key.now) (numbers_of_primes c.args.others.now)
    (numbers_none_held (numbers_of_key c.args.key.now) (search rules)) c.in_ok-of.ensures.held

-- Each field is the number of the struct's field.
pub returns-clause-ok : goal.returns-clause-ok
returns-clause-ok c = grind (arith, common_steps)
