-- `Spelling::len`, at the `?` behind `encoded_len`: the spelling is valid, as the parameters are, so only its length
-- can be the reason. `e` is that `?` hands the error on.
use Rattle.der_core.specs.Words.{err_from_is_err_and}
use Rattle.pkcs1_params.proofs.Masks.{record_is_spelled, spelling_encoding, uncounted_overflows}
use Rattle.spki_core.specs.Words.{record_under}
use Rattle.pkcs1_params.proofs.spelling.Spelling.len.Goals as goal

pub returns-in_err-encoded_len-clause-err : goal.returns-in_err-encoded_len-clause-err
returns-in_err-encoded_len-clause-err g c =
    let e = err_from_is_err_and c.from_residual.result c.from_residual.ensures.1 in
    let t = g.T.EncodeParams in
    let s = c.args.self.now in
    let v = t.params s.params in
    rw (e.1, e.2)
    (uncounted_overflows (spelling_encoding t.form (record_under t.form s.mask v)) _
    (record_is_spelled t.form v s.mask c.lemma_is_valid.ensures) c.in_err-encoded_len.ensures.counted)
