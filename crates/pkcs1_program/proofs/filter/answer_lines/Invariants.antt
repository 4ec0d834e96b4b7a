-- The loop of `answer_lines`: the lines whose output was made, with those that are left, are all lines.
use Rattle.std.proofs.Common.{◌≡◌, ◌≤◌, ℕ, ◌++◌, List, length}
use Rattle.pkcs1_program.specs.Words.{MakesOutput, lines_of}
use Rattle.pkcs1_program.proofs.filter.answer_lines.Given as goal

abbrev pub invariant-loop-rest : goal.invariant-loop-rest
invariant-loop-rest g l = record {
  answered : (lines : List (List ℕ)) × (lines_of l.input ≡ lines ++ lines_of l.rest)
      × MakesOutput (g.W.Sink.contents l.fn.sink) (g.W.Sink.contents l.sink) l.held.items lines;
  faults : g.W.Sink.failures l.sink ≡ g.W.Sink.failures l.fn.sink;
  within : length l.rest ≤ length l.input;
}

-- `split_line` takes a line from what is left.
abbrev pub decreases-loop-rest : goal.decreases-loop-rest
decreases-loop-rest g l = length l.rest
