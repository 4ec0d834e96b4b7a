-- At both exits a write or the flush failed. `stopped` says that a beginning of what was held was written, and that one
-- call of the sink failed. Before that `answer_lines` made the output of lines, and no call failed.
use Rattle.std.proofs.Common.{[], sym, ap, append-nil, Err}
use Rattle.pkcs1_program.specs.Words.{lines_of}
use Rattle.pkcs1_program.proofs.Runs.{Makes-front}
use Rattle.pkcs1_program.proofs.filter.answer_input.Goals as goal

-- `finish` failed, after the output for all lines was made.
pub returns-in-Ok-clause-write : goal.returns-in-Ok-clause-write
returns-in-Ok-clause-write g c = λ failed.
    let stopped = rw failed at c.finish.ensures.written in
    let lines = lines_of c.args.input.now in (
      (rw c.in-Ok.ensures.same at stopped.2),
      Makes-front _ _ _ _ _ lines [] (sym (append-nil lines)) c.in-Ok.ensures.ok
          (rw c.as_slice.ensures.value at stopped.1),
    )

-- At the `?` behind `write_out`, where memory ran out after the output for the lines `first.0` was made. `first.1` are
-- the others, and `quiet` says that no call had failed.
pub returns-in_err-write_out-in-Err-Memory-clause-write : goal.returns-in_err-write_out-in-Err-Memory-clause-write
returns-in_err-write_out-in-Err-Memory-clause-write g c = λ _.
    let stopped = c.in_err-write_out-in-Err-Memory.ensures in
    let first = c.in-Err-Memory.ensures.memory (ap Err c.in-Err-Memory.field-0-is) in
    let quiet = c.in-Err-Memory.ensures.memory_quiet (ap Err c.in-Err-Memory.field-0-is) in (
      (rw quiet at stopped.2),
      Makes-front _ _ _ _ _ first.0 first.1 first.2 first.3
          (rw c.as_slice-in-Err-Memory.ensures.value at stopped.1),
    )
