-- The loop of `prepend_value` of `EncodeValue` for `GivenPrimes`: the last primes are written.
use Rattle.std.proofs.Common.{◌≤◌, drop, length}
use Rattle.der_core.specs.Words.{all_encodings}
use Rattle.pkcs1_c.specs.Words.{given_encoded}
use Rattle.pkcs1_c.proofs.given_primes.GivenPrimesEncodeValue.prepend_value.Given as goal

abbrev pub invariant-loop-left : goal.invariant-loop-left
invariant-loop-left g l =
    (l.left ≤ length l.self.others.now)
    × g.W.Prepend.prepended (all_encodings given_encoded (drop l.left l.self.others.now)) l.fn.writer l.writer

-- So many are left to be written.
abbrev pub decreases-loop-left : goal.decreases-loop-left
decreases-loop-left g l = l.left
