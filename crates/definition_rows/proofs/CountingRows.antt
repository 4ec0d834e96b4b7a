-- Worked rows of `Counting.antt` of `der_core`: what a counter counted.
use Rattle.std.proofs.Common.{ℕ, List, ◌≡◌, ◌≤◌, ◌<◌, ◌+◌, length, refl}
use Rattle.std.specs.Prelude.{◌↔◌}
use Rattle.der_core.specs.Counting.{Counted, sum_of}
use Rattle.der_core.specs.declared.counter.Counter.{Counter}

octets_counted_on : (octets : List ℕ) (old new : Counter) → Counted octets old new
    ↔ ((sum_of old + length octets ≤ 4294967295 → sum_of new ≡ sum_of old + length octets)
    × (4294967295 < sum_of old + length octets → 4294967295 < sum_of new))
octets_counted_on octets old new = (λ p. p, λ p. p)

sum_held : (counter : Counter) → sum_of counter ≡ counter.sum
sum_held counter = refl
