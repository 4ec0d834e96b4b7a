-- `from_algorithm` of `FromAlgorithm for T`, for each `T`.
use Rattle.std.proofs.Common.{Option, Some, None, option_map}
use Rattle.der_core.specs.Words.{are_bytes}
use Rattle.spki_core.specs.Words.{any_of}
use Rattle.spki_core.specs.declared.any.AnyRef.{AnyRef}
use Rattle.pkcs1_params.specs.Words.{Identifies, answers_asn1_decode}
use Rattle.pkcs1_params.proofs.Algorithms.{AreHeld, identified_decodes}
use Rattle.standard.specs.Statement.{IfPresent}
use Rattle.pkcs1_params.proofs.algorithm.AnyFromAlgorithm.from_algorithm.Goals as goal

-- The parameters of an algorithm identifier, if it has any, are octets within the limit, as an `AnyRef` holds them.
parameters_are_held : (o : Option AnyRef) → IfPresent AreHeld (option_map any_of o)
parameters_are_held None = tt
parameters_are_held (Some any) = (are_bytes any.contents.now any.octets, any.bounded)

-- `from_identifier` returns what the function `identified` gives, and that gives a value exactly where the identifier
-- holds such parameters.
pub returns-clause-read : goal.returns-clause-read
returns-clause-read g c =
    let t = g.T.AlgorithmParams in
    let oid = g.T.Oid.AssociatedOid.contents in
    answers_asn1_decode (Identifies oid t.Is t.fields_of) _ t.params _
    (identified_decodes t.form oid _ (parameters_are_held c.args.algorithm.now.parameters)) _ c.from_identifier.ensures
