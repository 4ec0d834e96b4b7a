-- `it.result` is the algorithm identifier that `identified` makes. It means the identifier of D with the parameters
-- `v`, by `it.ensures.means`. Its encodings are those of `v` by `AlgorithmEncoding`, which `algorithm_spelled` says.
use Rattle.std.proofs.Common.{ℕ, length, subst, Ok, Err, Some, None}
use Rattle.der_core.specs.Words.{err_from_is_err_and}
use Rattle.der_core.proofs.Writing.{encode_into_encodes, encode_into_unwritten}
use Rattle.spki_core.specs.Words.{algorithm_map, viewed_with, AreSpelled, record_under, viewed_held}
use Rattle.pkcs1_params.specs.Words.{Refuses, with_parameters, EncodingOfFields, encodes_as, refuses_as}
use Rattle.pkcs1_params.specs.declared.error.Error.TheVariants as error
use Rattle.pkcs1_params.proofs.Algorithms.{AlgorithmSpelled, algorithm_spelled, algorithm_valid, algorithm_written}
use Rattle.standard.specs.Statement.{Algorithm, AlgorithmEncoding, Encodes, IsAlgorithm, IsIdentifier}
use Rattle.pkcs1_params.proofs.algorithm.encode_identifier.Goals as goal

-- At the end: `encode_into` wrote the shortest encoding of `it.result`, and `field-0` is its length.
pub returns-clause-written : goal.returns-clause-written
returns-clause-written g c =
    let t = g.T.EncodeParams in
    let oid = g.D.AssociatedOid.contents in
    let v = t.params c.args.params in
    let it = c.identified-algorithm in
    let identifier = subst (λ (a : Algorithm t.Params). IsIdentifier a.oid) it.ensures.means (viewed_held it.result.oid) in
    let made = c.in_ok-encode_into.ensures in
    encodes_as (AlgorithmSpelled oid identifier t.form) (AlgorithmEncoding oid (EncodingOfFields t.Is t.fields_of))
    (with_parameters oid v) v (algorithm_spelled oid identifier t.form v) c.args.out.now c.encode_into.new.out
    (Some c.in_ok-encode_into.field-0)
    (subst
    (λ a. Encodes (AlgorithmSpelled oid identifier t.form) a c.args.out.now c.encode_into.new.out
    (Some c.in_ok-encode_into.field-0)) it.ensures.means
    (encode_into_encodes (algorithm_written oid identifier t.form) (viewed_with (λ s. t.params s.params) it.result)
    c.args.out.now _ (Ok c.in_ok-encode_into.field-0) made.ok made.shortest tt tt c.encode_into.auto.out))

-- At the `?` behind `encode_into`, whose error is `field-0.0`: the slice is as it was (clause `written`), and the
-- reason is one of `v` too (clause `err`). `p` is that `?` hands the error on, as `Asn1`.
pub returns-in_err-encode_into : goal.returns-in_err-encode_into
returns-in_err-encode_into g c =
    let p = err_from_is_err_and c.from_residual.result c.from_residual.ensures.1 in
    let t = g.T.EncodeParams in
    let oid = g.D.AssociatedOid.contents in
    let v = t.params c.args.params in
    let it = c.identified-algorithm in
    let identifier = subst (λ (a : Algorithm t.Params). IsIdentifier a.oid) it.ensures.means (viewed_held it.result.oid) in
    let told = c.in_err-encode_into.ensures in
    let e = error.Asn1 c.in_err-encode_into.field-0.0 in
    let Written : Algorithm t.Params → Type 0 =
    λ a. IsAlgorithm (AreSpelled t.form.kinds) (algorithm_map (record_under t.form 0) a) in record {
      written =
          rw p.1
          (encodes_as (AlgorithmSpelled oid identifier t.form)
          (AlgorithmEncoding oid (EncodingOfFields t.Is t.fields_of))
          (with_parameters oid v) v (algorithm_spelled oid identifier t.form v) c.args.out.now
          c.encode_into.new.out None
          (subst
          (λ a. Encodes (AlgorithmSpelled oid identifier t.form) a c.args.out.now c.encode_into.new.out None)
          it.ensures.means
          (encode_into_encodes (algorithm_written oid identifier t.form)
          (viewed_with (λ s. t.params s.params) it.result)
          c.args.out.now _ (Err c.in_err-encode_into.field-0.0) tt tt told.err told.unchanged c.encode_into.auto.out)));
      err =
          rw (p.1, p.2)
          (refuses_as (AlgorithmSpelled oid identifier t.form)
          (AlgorithmEncoding oid (EncodingOfFields t.Is t.fields_of))
          (with_parameters oid v) v (algorithm_spelled oid identifier t.form v) Written (λ _. Unit {0})
          ((λ _. tt), (λ _. algorithm_valid oid identifier t.form v it.ensures.valid)) (length c.args.out.now) e
          (subst (λ a. Refuses Written (AlgorithmSpelled oid identifier t.form) a (length c.args.out.now) e)
          it.ensures.means
          (encode_into_unwritten (algorithm_written oid identifier t.form)
          (viewed_with (λ s. t.params s.params) it.result)
          {X = ℕ} _ (Err c.in_err-encode_into.field-0.0) told.err)));
    }
