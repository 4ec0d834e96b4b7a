-- The loop of `pkcs1_c_other_primes`: of any primes that are listed, those so far are placed.
use Rattle.std.proofs.Common.{◌≡◌, ◌≤◌, List, length}
use Rattle.der_core.specs.Words.{limit}
use Rattle.pkcs1.specs.Words.{primes_encoded}
use Rattle.standard.specs.Statement.{OtherPrime}
use Rattle.pkcs1_c.proofs.PlacedPrimes.{Placing}
use Rattle.pkcs1_c.proofs.private_key.pkcs1_c_other_primes.Given as goal

abbrev pub invariant-loop-i : goal.invariant-loop-i
invariant-loop-i l =
    (length l.rest ≤ limit)
    × ((primes : List OtherPrime) → l.listed ≡ primes_encoded primes → Placing primes l.rest l.others l.fn.others l.i)
