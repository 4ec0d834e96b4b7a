-- `ListedEncoding` says that the bytes encode parameters whose longest encoding is within the limit. If the bytes are
-- no such encoding the output is `refused`, else it lists all encodings.
use Rattle.std.proofs.Common.{refl}
use Rattle.pkcs1_params.specs.Words.{encodings_in}
use Rattle.pkcs1_program.specs.Words.{ListedEncoding}
use Rattle.pkcs1_program.proofs.AppendedOutput.{answer_put, refusal_put}
use Rattle.pkcs1_program.proofs.OneAnswer.{unlisted_decodes_none}
use Rattle.pkcs1_program.proofs.parameter_answers.answer_spell.Goals as goal

-- `all_encodings` gave a list: it is all encodings (`lists`), and the longest is within the limit (`fit`).
-- `put_spellings` puts them.
pub returns-in-Some-2 : goal.returns-in-Some-2
returns-in-Some-2 g c =
    let t = g.T.Parameters in
    let lists = rw c.in-Some-2.is at c.in_ok-encodings.ensures.listed in
    let fit = rw c.in-Some-2.is at c.in_ok-encodings.ensures.fit in
    answer_put (ListedEncoding t.Is t.fields_of) c.args.encoding.now _ _ c.put_spellings.result _
    (t.params c.in-Some.params) _ (c.in-Some.ensures.0, fit) (encodings_in c.in-Some-2.encodings, lists, refl)
    (rw c.as_slice.ensures.value at c.put_spellings.ensures)

-- `all_encodings` gave `None`: the longest encoding isn't within the limit.
pub returns : goal.returns
returns g c =
    let t = g.T.Parameters in
    let lists = rw c.in-None.is at c.in_ok-encodings.ensures.listed in
    refusal_put (ListedEncoding t.Is t.fields_of) c.args.encoding.now _ _ c.put_refused-in-None.result _
    (unlisted_decodes_none t.Is t.fields_of (t.params c.in-Some.params) c.args.encoding.now c.in-Some.ensures lists)
    c.put_refused-in-None.ensures

-- `T::read` gave `None`: the bytes encode no parameters.
pub returns-in_default : goal.returns-in_default
returns-in_default g c =
    let t = g.T.Parameters in
    refusal_put (ListedEncoding t.Is t.fields_of) c.args.encoding.now _ _ c.put_refused.result _
    (λ v p. c.in_default.ensures v p.0) c.put_refused.ensures
