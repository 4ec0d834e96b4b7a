-- No byte in front of `passed` is such a byte.
use Rattle.std.proofs.Common.{◌≡◌, ◌==◌, ◌≤◌, ◌-◌, ◌+◌, length, drop}
use Rattle.std.specs.List.{position_or_len}
use Rattle.pkcs1_program.proofs.lines.place_of.Given as goal

abbrev pub invariant-loop-passed : goal.invariant-loop-passed
invariant-loop-passed l = record {
  within : l.passed ≤ length l.bytes;
  none : position_or_len (λ other. other == l.byte) l.bytes
      ≡ l.passed + position_or_len (λ other. other == l.byte) (drop l.passed l.bytes);
}

abbrev pub decreases-loop-passed : goal.decreases-loop-passed
decreases-loop-passed l = length l.bytes - l.passed
