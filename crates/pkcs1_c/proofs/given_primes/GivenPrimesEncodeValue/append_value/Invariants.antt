-- The loop of `append_value` of `EncodeValue` for `GivenPrimes`: the primes so far are appended.
use Rattle.std.proofs.Common.{length, take}
use Rattle.der_core.specs.Words.{Receives, TakesRoom, all_encodings}
use Rattle.pkcs1_c.specs.Words.{given_encoded}
use Rattle.pkcs1_c.proofs.given_primes.GivenPrimesEncodeValue.append_value.Given as goal

abbrev pub invariant-loop-other : goal.invariant-loop-other
invariant-loop-other g l = record {
  written : Receives (all_encodings given_encoded (take l.other-index l.other-items))
      (g.W.Writer.written l.fn.writer) (g.W.Writer.written l.writer);
  room : TakesRoom (length (all_encodings given_encoded (take l.other-index l.other-items)))
      (g.W.Writer.room l.fn.writer) (g.W.Writer.room l.writer);
  kept : g.W.Writer.keeps l.fn.writer l.writer;
}
