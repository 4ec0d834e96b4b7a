-- `lemma_answers_are_one` says that a line has at most one output, and so has a list of lines. The clauses `one_answer`
-- and `one_output` hold at each exit, also at the `?` behind `read_input`.
use Rattle.std.proofs.KnownBytes.{Consumes-whole}
use Rattle.pkcs1_program.specs.Words.{lines_of, WritesFrontOfAll}
use Rattle.pkcs1_program.proofs.Runs.{WritesFront-all}
use Rattle.pkcs1_program.proofs.filter.run.Goals as goal

pub returns-in_err-input-clause-one_answer : goal.returns-in_err-input-clause-one_answer
returns-in_err-input-clause-one_answer g c = c.lemma_answers_are_one.ensures.0

pub returns-in_err-input-clause-one_output : goal.returns-in_err-input-clause-one_output
returns-in_err-input-clause-one_output g c = λ input. c.lemma_answers_are_one.ensures.1 (lines_of input)

-- `answer_input` failed to write: what was written is a beginning of the output for some first lines. That is a
-- beginning of whatever is the output for all lines, since there is only one. `all` says that the input is all that the
-- source gave, so it is what the source had.
pub returns-clause-front_of_all : goal.returns-clause-front_of_all
returns-clause-front_of_all g c = λ rejected.
    let all = c.in_ok-input.ensures.all in
    let front = (c.answer_input.ensures.write rejected).1 in
    Consumes-whole _ _ c.in_ok-input.input.items
    (λ input. WritesFrontOfAll (g.W.Sink.contents c.args.sink.now) (g.W.Sink.contents c.answer_input.new.sink)
    (lines_of input))
    all.0 all.1 (WritesFront-all c.lemma_answers_are_one.ensures.1 _ _ _ (rw c.as_slice.ensures.value at front))

pub returns-clause-one_answer : goal.returns-clause-one_answer
returns-clause-one_answer g c = c.lemma_answers_are_one.ensures.0

pub returns-clause-one_output : goal.returns-clause-one_output
returns-clause-one_output g c = λ input. c.lemma_answers_are_one.ensures.1 (lines_of input)
