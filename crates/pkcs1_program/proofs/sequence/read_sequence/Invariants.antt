-- The loop of `read_sequence`: the bytes are what came, and may begin a SEQUENCE.
use Rattle.std.proofs.Common.{◌≡◌, ◌≤◌, ◌-◌, vec_len}
use Rattle.std.specs.Io.KnownBytes.{Consumes}
use Rattle.der_core.specs.Words.{limit}
use Rattle.pkcs1_program.specs.Words.{IsSequenceFront}
use Rattle.pkcs1_program.proofs.sequence.read_sequence.Given as goal

abbrev pub invariant-loop-count : goal.invariant-loop-count
invariant-loop-count g l = record {
  came : Consumes (g.R.Source.remaining l.fn.source) (g.R.Source.remaining l.source) l.bytes.items;
  front : IsSequenceFront l.bytes.items;
  within : vec_len l.bytes ≤ limit;
  faults : g.R.Source.failures l.source ≡ g.R.Source.failures l.fn.source;
}

-- Each pass adds at least one byte, and the bytes stay within the limit.
abbrev pub decreases-loop-count : goal.decreases-loop-count
decreases-loop-count g l = limit - vec_len l.bytes
