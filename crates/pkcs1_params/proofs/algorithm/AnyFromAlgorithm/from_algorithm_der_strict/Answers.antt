-- `from_algorithm_der_strict` in `FromAlgorithm for T`, for each `T`. What it returns is what `whole_algorithm` with strict
-- reading gives, and that gives a value exactly for its shortest encoding. `bytes` is that the slice holds octets, and `p`
-- that `?` hands the error on, as `Asn1`.
use Rattle.std.proofs.Common.{ap, subst, rules}
use Rattle.der_core.specs.Words.{err_from_is_err_and, are_bytes, value_in, ◌>>=◌}
use Rattle.spki_core.specs.Words.{record_strictly}
use Rattle.pkcs1_params.specs.Words.{identified, EncodingOfFields, answers_asn1_behind, answers_asn1_decode}
use Rattle.pkcs1_params.proofs.Algorithms.{strict_algorithm_decodes}
use Rattle.der_core.proofs.ReadSteps.{fault_without_memory}
use Rattle.pkcs1_params.proofs.ParameterReads.{plain_never}
use Rattle.standard.specs.Statement.{AlgorithmEncoding, Decodes, IsShortest}
use Rattle.pkcs1_params.proofs.algorithm.AnyFromAlgorithm.from_algorithm_der_strict.Goals as goal

-- At the `?` behind `from_der`: the slice is no algorithm identifier. `fault` is that the error is about the slice, as
-- reading a view asks for no memory.
pub returns-in_err-algorithm-clause-read : goal.returns-in_err-algorithm-clause-read
returns-in_err-algorithm-clause-read g c =
    let t = g.T.AlgorithmParams in
    let oid = g.T.Oid.AssociatedOid in
    let bytes = are_bytes c.args.bytes.now (search rules) in
    let p = err_from_is_err_and c.from_residual.result c.from_residual.ensures.1 in
    let fault = fault_without_memory (λ w. plain_never _ w.3) c.in_err-algorithm.ensures.exact in
    let Encoding = IsShortest (AlgorithmEncoding oid.contents (EncodingOfFields t.Is t.fields_of)) in
    rw p.1
    (subst (λ x. Decodes Encoding c.args.bytes.now (value_in x))
    (ap (λ x. x >>= identified oid.contents (record_strictly t.form)) fault)
    (strict_algorithm_decodes oid.contents oid.valid t.form _ bytes))

-- At the end: the slice is an algorithm identifier, and `from_identifier` reads the parameters in it.
pub returns-clause-read : goal.returns-clause-read
returns-clause-read g c =
    let t = g.T.AlgorithmParams in
    let oid = g.T.Oid.AssociatedOid in
    let bytes = are_bytes c.args.bytes.now (search rules) in
    answers_asn1_decode (IsShortest (AlgorithmEncoding oid.contents (EncodingOfFields t.Is t.fields_of))) _ t.params _
    (strict_algorithm_decodes oid.contents oid.valid t.form _ bytes) _
    (answers_asn1_behind t.params _ (identified oid.contents (record_strictly t.form)) _ c.in_ok-algorithm.ensures.exact _
    c.from_identifier.ensures)
