-- The word, the number of encodings and the encodings are put one behind the other. That is what `spell_answer` says.
use Rattle.std.proofs.lemmas.Result.{on_ok_weaker}
use Rattle.pkcs1_program.proofs.OneAnswer.{spellings_put}
use Rattle.pkcs1_program.proofs.parameter_answers.put_spellings.Goals as goal

pub returns : goal.returns
returns c =
    on_ok_weaker c.put_encodings.result
    (λ put. spellings_put c.args.word.now c.args.out.now.items _ _ c.put_encodings.new.out.items c.args.encodings.now
    c.in_ok-extend_from_slice.ensures.items
    c.in_ok-put_number.ensures put) c.put_encodings.ensures
