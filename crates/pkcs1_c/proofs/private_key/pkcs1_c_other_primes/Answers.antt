-- `pkcs1_c_other_primes`: each round places the next prime, until none is left or the array is full.
use Rattle.std.proofs.Common.{arith, inl}
use Rattle.der_core.specs.Words.{bytes_of}
use Rattle.pkcs1.specs.Words.{number_in, other_of}
use Rattle.pkcs1_c.proofs.PlacedPrimes.{one_placed, placing_all_placed, placing_stopped}
use Rattle.pkcs1_c.proofs.private_key.pkcs1_c_other_primes.Goals as goal

-- `first_other_prime` has read the first of the primes that are left, and `to_c_other_prime` has its octets.
pub loop-i-preserved : goal.loop-i-preserved
loop-i-preserved c = (
  c.in-Ok.ensures.rest,
  λ primes whole.
      one_placed primes _ _ c.loop-i.others c.args.others.now c.loop-i.i c.to_c_other_prime.result
      (other_of (number_in bytes_of) c.in-Ok.prime) (omega arith)
      c.to_c_other_prime.ensures c.in-Ok.ensures.ok (c.loop-i.invariant.1 primes whole),
)

-- `first_other_prime` has failed, so no prime is left of the list: all are placed.
pub returns-in-Err : goal.returns-in-Err
returns-in-Err c = record {
  placed = λ primes few whole.
      placing_stopped primes _ c.loop-i.others c.args.others.now c.loop-i.i
      (omega arith) c.loop-i.auto.others c.in-Err.ensures.err (c.loop-i.invariant.1 primes whole);
}

-- After the last round the array is full.
pub returns : goal.returns
returns c = record {
  placed = λ primes few whole.
      placing_all_placed primes _ c.loop-i.others c.args.others.now c.loop-i.i
      (omega arith) c.loop-i.auto.others
      (c.loop-i.invariant.1 primes whole) (inl (omega arith));
}
