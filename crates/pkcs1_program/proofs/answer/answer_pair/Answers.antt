-- The word of the line is that of the arm, and `answer_same` puts the output for it.
use Rattle.pkcs1_program.proofs.answer.answer_pair.Goals as goal

pub returns-in-SamePss : goal.returns-in-SamePss
returns-in-SamePss c = rw c.in-SamePss.is c.answer_same.ensures

pub returns-in-SameOaep : goal.returns-in-SameOaep
returns-in-SameOaep c = rw c.in-SameOaep.is c.answer_same-in-SameOaep.ensures
