-- `flush` failed behind `write_out`. All bytes were written, and these are a beginning of themselves. That one call
-- failed is said by `flush`, since `write_out` left the number of failures as it was.
use Rattle.std.proofs.Common.{length, refl}
use Rattle.std.proofs.KnownBytes.{Appends-kept}
use Rattle.std.proofs.Math.Seq.{take-length}
use Rattle.pkcs1_program.proofs.filter.finish.Goals as goal

pub returns-in-Err-clause-written : goal.returns-in-Err-clause-written
returns-in-Err-clause-written g c =
    let written = c.in_ok-write_out.ensures in (
      refl,
      (length c.args.bytes.now, rw take-length (Appends-kept _ _ _ _ written.0 c.in-Err.ensures.bytes)),
      rw written.1 at c.in-Err.ensures.faults,
    )
