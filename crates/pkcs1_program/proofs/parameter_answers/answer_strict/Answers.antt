-- Where `T::read` gave parameters, `v`. `is_strict` says whether the bytes are the shortest encoding of any parameters.
-- They encode v alone, so it says it of v, which is `own`.
use Rattle.pkcs1_params.specs.Words.{EncodingOfFields}
use Rattle.pkcs1_program.proofs.AppendedOutput.{answer_put}
use Rattle.pkcs1_program.proofs.Verdicts.{own_shortest, verdict_says}
use Rattle.pkcs1_program.proofs.parameter_answers.answer_strict.Goals as goal

pub returns-in-Some : goal.returns-in-Some
returns-in-Some g c =
    let t = g.T.Parameters in
    let E = EncodingOfFields t.Is t.fields_of in
    let encoding = c.args.encoding.now in
    let v = t.params c.in-Some._params in
    let own = own_shortest E encoding c.is_strict.result v c.in-Some.ensures c.is_strict.ensures in
    answer_put E encoding _ _ c.put_verdict.result _ v _ c.in-Some.ensures.0
    (verdict_says c.args.word.now c.is_strict.result _ own) c.put_verdict.ensures
