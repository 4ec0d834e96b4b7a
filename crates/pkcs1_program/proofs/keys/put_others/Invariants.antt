-- The loop of `put_others`: what was put, and what is left, are the primes.
use Rattle.std.proofs.Common.{◌≡◌, ◌++◌, flat_map}
use Rattle.pkcs1.specs.Words.{held_other_primes, held_view, listed_others}
use Rattle.pkcs1_program.specs.Words.{other_prime_field}
use Rattle.pkcs1_program.proofs.keys.put_others.Given as goal

abbrev pub invariant-loop-other : goal.invariant-loop-other
invariant-loop-other l =
    l.out.items ++ flat_map other_prime_field (held_other_primes l.other-iterator) ≡ l.fn.out.items
    ++ flat_map other_prime_field (listed_others (held_view l.key).other_primes)
