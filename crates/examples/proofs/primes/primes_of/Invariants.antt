-- In the loop of `primes_of`, no prime is lost.
use Rattle.std.proofs.Common.{◌≡◌, ◌++◌, ℕ, map}
use Rattle.der_core.specs.Words.{bytes_of}
use Rattle.pkcs1.specs.Words.{held_other_primes, held_view, number_in, listed_others}
use Rattle.standard.specs.Statement.{OtherPrime}
use Rattle.examples.proofs.primes.primes_of.Given as goal

abbrev prime_of : OtherPrime → ℕ
prime_of other = other.prime

-- What was pushed, and what is left, are the primes.
abbrev pub invariant-loop-other : goal.invariant-loop-other
invariant-loop-other l =
    map (number_in bytes_of) l.primes.items ++ map prime_of (held_other_primes l.other-iterator)
    ≡ map prime_of (listed_others (held_view l.view).other_primes)
