-- In the loop of `strip`, `rest` is `bytes` less some zeros: the same number, no longer, empty only if `bytes` is.
use Rattle.std.proofs.Common.{◌≡◌, ◌≤◌, length}
use Rattle.der_core.specs.Words.{number_from_digits}
use Rattle.der_core.proofs.integer.uint.strip.Given as goal

abbrev pub invariant-loop-rest : goal.invariant-loop-rest
invariant-loop-rest l = record {
  number : number_from_digits 256 l.rest ≡ number_from_digits 256 l.bytes;
  empty : length l.rest ≡ 0 → length l.bytes ≡ 0;
  bound : length l.rest ≤ length l.bytes;
}

-- Each turn drops one byte.
abbrev pub decreases-loop-rest : goal.decreases-loop-rest
decreases-loop-rest l = length l.rest
