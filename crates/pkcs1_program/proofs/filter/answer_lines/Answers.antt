-- One pass of the loop. `before` is what was done for the lines before: `before.0` are these lines, `before.1` says
-- that they and the lines of `rest` are all lines, `before.2` that their output was made. `answer.0` is the output for
-- `line`, as `answer.1` says, and `answer.2` that it was put. `more` are the lines behind it.
use Rattle.std.proofs.Common.{◌++◌, ◌∷◌, [], sym, ap, ◌∙◌, append_assoc, arith}
use Rattle.pkcs1_program.specs.Words.{lines_of}
use Rattle.pkcs1_program.proofs.Runs.{Makes-push, Makes-stop}
use Rattle.pkcs1_program.proofs.filter.answer_lines.Goals as goal

-- At the `?` behind `write_long`: `stopped` says that it wrote a beginning of what was held, and that one call of the
-- sink failed. So a beginning of the output for the lines up to `line` was written.
pub returns-in_err-write_long-clause-write : goal.returns-in_err-write_long-clause-write
returns-in_err-write_long-clause-write g c = λ _.
    let stopped = c.in_err-write_long.ensures in
    let before = c.loop-rest.invariant.answered in
    let line = c.split_line.result.0.now in
    let answer = c.in_ok-answer_line.ensures in
    let more = lines_of c.split_line.result.1.now in (
      (rw c.loop-rest.invariant.faults at stopped.2),
      Makes-stop _ _ _ _ _ _ before.0 more line answer.0
          (before.1 ∙ ap (λ r. before.0 ++ r) c.split_line.ensures.lines) before.2 answer.1
          (rw (c.as_slice.ensures.value, c.in_ok-push.ensures.items, answer.2, c.clear.ensures.items) at
          c.in_ok-extend_from_slice.ensures.items)
          stopped.1,
    )

-- `write_long` wrote a front of what was held and left the rest, as `taken` says. So the output for `line` too was
-- made.
pub loop-rest-preserved : goal.loop-rest-preserved
loop-rest-preserved g c =
    let taken = c.in_ok-write_long.ensures in
    let before = c.loop-rest.invariant.answered in
    let line = c.split_line.result.0.now in
    let answer = c.in_ok-answer_line.ensures in
    let more = lines_of c.split_line.result.1.now in
    record {
      answered = (
        before.0 ++ line ∷ [],
        before.1 ∙ ap (λ r. before.0 ++ r) c.split_line.ensures.lines ∙ sym (append_assoc before.0 (line ∷ []) more),
        Makes-push _ _ _ _ _ _ before.0 line answer.0 taken.0 before.2 answer.1
            (rw (c.as_slice.ensures.value, c.in_ok-push.ensures.items, answer.2, c.clear.ensures.items) at
            c.in_ok-extend_from_slice.ensures.items)
            taken.1 taken.2,
      );
      faults = taken.3 ∙ c.loop-rest.invariant.faults;
      within = omega arith;
    }
