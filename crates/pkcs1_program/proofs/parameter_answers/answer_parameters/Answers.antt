-- Where `T::read` gave parameters. `encode_to_slice` speaks of the encodings that T states. `encodings_are`, which the
-- trait `Parameters` asks of T, says that they are those of the parameters. The bound is met at the lifetimes of the
-- call, of which `claim` holds. `s` is T as `Encoding`, `t` is T as `Parameters`.
use Rattle.std.proofs.Common.{arith, refl}
use Rattle.der_core.specs.Words.{Spells, encode_error}
use Rattle.pkcs1_params.specs.Words.{shortest_as, EncodingOfFields}
use Rattle.pkcs1_program.proofs.AppendedOutput.{answer_put}
use Rattle.pkcs1_program.proofs.Verdicts.{is_written}
use Rattle.pkcs1_program.proofs.parameter_answers.answer_parameters.Goals as goal

-- What was written is the shortest encoding that T states, so that of the parameters. What `put` appends is the output
-- for them: `defaults` counts the fields that have their defaults.
pub returns-in-Ok : goal.returns-in-Ok
returns-in-Ok g c =
    let claim : g.claim c.lifetimes = assumption in
    let s = g.T.Encoding in
    let t = g.T.Parameters in
    let E = EncodingOfFields t.Is t.fields_of in
    let params = c.in-Some.params in
    let again = c.in-Ok.again.now in
    let shortest =
    shortest_as (Spells s.valid s.printed s.means) E (s.value params) (t.params params)
    ((g.met.T.Parameters c.lifetimes claim).encodings_are params) again c.in-Ok.ensures.shortest in
    answer_put E c.args.encoding.now _ _ c.put.result _ (t.params params) _ c.in-Some.ensures.0
    (c.defaults.result, c.defaults.ensures, again, shortest, refl) c.put.ensures

-- `encoding` is an encoding of the parameters that fits into the buffer, so `encode_to_slice` doesn't fail.
pub unreachable-requires : goal.unreachable-requires
unreachable-requires g c =
    let claim : g.claim c.lifetimes = assumption in
    let s = g.T.Encoding in
    let params = c.in-Some.params in
    let encoding = c.args.encoding.now in
    is_written s.valid s.printed s.means _ (s.value params) _ encoding (encode_error c.in-Err.field-0.kind)
    (((g.met.T.Parameters c.lifetimes claim).encodings_are params encoding).1 c.in-Some.ensures.0)
    (omega (arith, c.in_ok-resize-in-Some.ensures.len)) c.in-Err.ensures.err
