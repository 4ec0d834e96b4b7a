-- `t` is what the trait `EncodeParams` says of the type of the parameters, `oid` are the octets of the identifier D.
-- `made` is the call of `Shortest::identified`, which puts both together.
use Rattle.std.proofs.Common.{length, subst, sym}
use Rattle.spki_core.specs.Words.{algorithm_map, AreSpelled, record_under, viewed_held}
use Rattle.pkcs1_params.specs.Words.{with_parameters, EncodingOfFields}
use Rattle.pkcs1_params.proofs.Algorithms.{AlgorithmSpelled, algorithm_spelled, algorithm_valid}
use Rattle.standard.specs.Statement.{Algorithm, AlgorithmEncoding, IsAlgorithm, IsIdentifier}
use Rattle.pkcs1_c.specs.Words.{IsErrorOf, UnwrittenStatus, WritesOrTells}
use Rattle.pkcs1_c.proofs.Writes.{unwritten_error_as, written_as}
use Rattle.pkcs1_c.proofs.written.write_algorithm.Goals as goal

-- Its result is valid: the identifier is one, and so are the parameters.
pub write_encoding-requires : goal.write_encoding-requires
write_encoding-requires g c =
    let t = g.T.EncodeParams in
    let oid = g.D.AssociatedOid.contents in
    let made = c.identified in
    let is = made.ensures.means in
    let identifier = subst (λ (a : Algorithm t.Params). IsIdentifier a.oid) is (viewed_held made.result.oid) in
    subst (λ a. IsAlgorithm (AreSpelled t.form.kinds) (algorithm_map (record_under t.form 0) a)) (sym is)
    (algorithm_valid oid identifier t.form (t.params c.args.params) made.ensures.valid)

-- Its result has the encodings of the algorithm identifier, so `write_encoding` says what is asked.
pub returns : goal.returns
returns g c =
    let t = g.T.EncodeParams in
    let oid = g.D.AssociatedOid.contents in
    let v = t.params c.args.params in
    let made = c.identified in
    let is = made.ensures.means in
    let identifier = subst (λ (a : Algorithm t.Params). IsIdentifier a.oid) is (viewed_held made.result.oid) in
    let Spelled = AlgorithmSpelled oid identifier t.form in
    let same = algorithm_spelled oid identifier t.form v in
    let told = c.write_encoding in
    let room = length c.args.out.now in record {
      writes =
          written_as (AlgorithmEncoding oid (EncodingOfFields t.Is t.fields_of)) v Spelled (with_parameters oid v) same
          (subst (λ a. WritesOrTells Spelled a c.args.out.now told.new.out c.args.len.now told.new.len told.result) is
          told.ensures.writes);
      exact =
          unwritten_error_as (AlgorithmEncoding oid (EncodingOfFields t.Is t.fields_of)) v Spelled
          (with_parameters oid v) same
          room
          told.result (subst (λ a. IsErrorOf (UnwrittenStatus Spelled a room) told.result) is told.ensures.exact);
    }
