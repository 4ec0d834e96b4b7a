-- Where `T::read` gave parameters of both encodings: `v` of the first, `w` of the second. `is_same` decides whether they
-- are the same. So the verdict that is put is true of them.
use Rattle.std.proofs.Common.{◌≡◌, inr}
use Rattle.std.proofs.lemmas.Result.{on_ok_weaker}
use Rattle.pkcs1_program.proofs.Verdicts.{verdict_of, verdict_says}
use Rattle.pkcs1_program.proofs.parameter_answers.answer_same.Goals as goal

pub returns-in-Some-Some : goal.returns-in-Some-Some
returns-in-Some-Some g c =
    let t = g.T.Parameters in
    let v = t.params c.in-Some-Some.params in
    let w = t.params c.in-Some-Some.others in
    let says = verdict_says c.args.word.now c.is_same.result (v ≡ w) c.is_same.ensures in
    on_ok_weaker c.put_verdict.result (λ put. (
      verdict_of c.args.word.now c.is_same.result,
      inr (v, w, c.in-Some-Some.ensures.0, c.in-Some-Some.ensures'.0, says),
      put,
    )) c.put_verdict.ensures
