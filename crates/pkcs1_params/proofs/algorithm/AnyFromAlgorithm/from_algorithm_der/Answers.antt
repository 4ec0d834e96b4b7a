-- `from_algorithm_der` of `FromAlgorithm for T`, for each `T`. What it returns is what `whole_algorithm` gives, and
-- that decodes the slice. `bytes` is that the slice holds octets, and `p` that `?` hands the error on, as `Asn1`.
use Rattle.std.proofs.Common.{ap, subst, rules}
use Rattle.der_core.specs.Words.{err_from_is_err_and, are_bytes, value_in, ◌>>=◌}
use Rattle.spki_core.specs.Words.{record_read}
use Rattle.pkcs1_params.specs.Words.{identified, EncodingOfFields, answers_asn1_behind, answers_asn1_decode}
use Rattle.pkcs1_params.proofs.Algorithms.{algorithm_decodes}
use Rattle.der_core.proofs.ReadSteps.{fault_without_memory}
use Rattle.pkcs1_params.proofs.ParameterReads.{plain_never}
use Rattle.standard.specs.Statement.{AlgorithmEncoding, Decodes}
use Rattle.pkcs1_params.proofs.algorithm.AnyFromAlgorithm.from_algorithm_der.Goals as goal

-- At the `?` behind `from_der`: the slice is no algorithm identifier. `fault` is that the error is about the slice, as
-- reading a view asks for no memory.
pub returns-in_err-algorithm-clause-read : goal.returns-in_err-algorithm-clause-read
returns-in_err-algorithm-clause-read g c =
    let t = g.T.AlgorithmParams in
    let oid = g.T.Oid.AssociatedOid.contents in
    let bytes = are_bytes c.args.bytes.now (search rules) in
    let p = err_from_is_err_and c.from_residual.result c.from_residual.ensures.1 in
    let fault = fault_without_memory (λ w. plain_never _ w.3) c.in_err-algorithm.ensures.exact in
    rw p.1
    (subst (λ x. Decodes (AlgorithmEncoding oid (EncodingOfFields t.Is t.fields_of)) c.args.bytes.now (value_in x))
    (ap (λ x. x >>= identified oid (record_read t.form)) fault)
    (algorithm_decodes oid g.T.Oid.AssociatedOid.valid t.form _ bytes))

-- At the end: the slice is an algorithm identifier, and `from_identifier` reads the parameters in it.
pub returns-clause-read : goal.returns-clause-read
returns-clause-read g c =
    let t = g.T.AlgorithmParams in
    let oid = g.T.Oid.AssociatedOid.contents in
    let bytes = are_bytes c.args.bytes.now (search rules) in
    answers_asn1_decode (AlgorithmEncoding oid (EncodingOfFields t.Is t.fields_of)) _ t.params _
    (algorithm_decodes oid g.T.Oid.AssociatedOid.valid t.form _ bytes) _
    (answers_asn1_behind t.params _ (identified oid (record_read t.form)) _ c.in_ok-algorithm.ensures.exact _
    c.from_identifier.ensures)
