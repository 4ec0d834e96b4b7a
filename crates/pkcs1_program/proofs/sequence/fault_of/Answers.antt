-- Without a fault, the bytes are a document, or `from_der` says that they are too few, or that it found no memory.
use Rattle.std.proofs.Common.{inl}
use Rattle.pkcs1_program.proofs.SequenceFronts.{unrefused_is_front}
use Rattle.pkcs1_program.proofs.sequence.fault_of.Goals.{in-Ok, in-Err+in-Incomplete, in-Err+in_default}
use Rattle.pkcs1_program.proofs.sequence.fault_of.Goals as goal

pub returns-clause-front : goal.returns-clause-front
returns-clause-front c =
    elim c.match-from_der.branch [
      | in-Ok w ↦ rw w.result-is (inl (rw w.in-Ok.is at c.from_der.ensures.exact))
      | in-Err+in-Incomplete w ↦
          rw w.result-is (unrefused_is_front c.args.bytes.now w.in-Err.error.kind
          (rw w.kind.ensures at w.in-Incomplete.is) (rw w.in-Err.is at c.from_der.ensures.exact))
      | in-Err+in_default w ↦ rw w.result-is tt
    ]
