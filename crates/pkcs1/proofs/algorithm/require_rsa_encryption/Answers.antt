-- In the `else` of `is_alone`. The object identifier is rsaEncryption, and there are parameters, but `is_alone` says
-- that they aren't NULL. So the kind that `rsa_only` gives is `Value` of their tag, and so is that of the error. `oid`
-- says which octets `is_rsa_encryption` looked at.
use Rattle.std.proofs.Common.{◌∙◌, sym, ap, Err, Some, option_map, bytes_eq}
use Rattle.der_core.specs.declared.error.Error.{Error}
use Rattle.spki_core.specs.Words.{algorithm_in, any_of}
use Rattle.pkcs1_params.specs.Words.{id_rsa_encryption}
use Rattle.pkcs1.specs.Words.{rsa_other}
use Rattle.pkcs1.proofs.algorithm.require_rsa_encryption.Goals as goal

pub returns-else-is_alone-clause-exact : goal.returns-else-is_alone-clause-exact
returns-else-is_alone-clause-exact g c =
    let oid = c.as_bytes.ensures.octets ∙ c.as_identifier_view-oid.ensures in
    let any = g.P.AnyValue.any in
    rsa_other (algorithm_in g.O.IdentifierValue.octets any c.args.algorithm.now) (any_of c.as_any_ref-any.result)
    c.tag.result
    (ap (λ octets. bytes_eq octets id_rsa_encryption) (sym oid) ∙ sym c.is_rsa_encryption.ensures
    ∙ c.if-not-is_rsa_encryption.false)
    (ap (option_map any) c.in-Some.is ∙ ap (λ v. Some v) (sym c.as_any_ref-any.ensures)) c.tag.ensures
    (sym c.is_alone.ensures ∙ c.if-is_alone.false)
    ∙ ap (λ (e : Error). Err e.kind) (sym c.new-else-is_alone.ensures)
