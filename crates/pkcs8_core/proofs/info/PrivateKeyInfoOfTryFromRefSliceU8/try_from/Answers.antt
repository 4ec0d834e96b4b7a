-- `try_from` of `PrivateKeyInfoOf`, which reads a view, and makes the container of it.
use Rattle.std.proofs.Common.{◌≡◌, subst, sym, Err, Ok, Some, option_map}
use Rattle.der_core.specs.Words.{decodes_stated, err_from_is_err_and, octets_of}
use Rattle.der_core.specs.declared.error.Error.{Error}
use Rattle.spki_core.specs.Words.{algorithm_in, any_of}
use Rattle.pkcs8_core.specs.Words.{container_stated, info_viewed, slice_now}
use Rattle.standard.specs.Statement.{ContainerEncoding, Decodes}
use Rattle.pkcs8_core.proofs.info.PrivateKeyInfoOfTryFromRefSliceU8.try_from.Goals as goal

-- At the `?` behind `read_borrowed`: `field-0.0` is its error, so the bytes encode no container.
pub returns-in_err-view-clause-read : goal.returns-in_err-view-clause-read
returns-in_err-view-clause-read g c =
    let p = err_from_is_err_and c.from_residual.result c.from_residual.ensures.1 in
    rw p.1 (decodes_stated container_stated info_viewed c.args.bytes.now (Err c.in_err-view.field-0.0)
    c.in_err-view.ensures.read)

-- At the `Ok`: `same` is that the view means what the container that is returned means. `algorithm_from_view` keeps the
-- identifier and the parameters.
pub returns-clause-read : goal.returns-clause-read
returns-clause-read g c =
    let view = c.in_ok-view.view in
    let told = c.algorithm_from_view.ensures in
    let same : info_viewed view ≡ record {
      algorithm = algorithm_in g.O.IdentifierValue.octets any_of c.algorithm_from_view.result;
      private_key = octets_of view.private_key;
      attributes = option_map slice_now view.attributes;
    } = λ i. record {
      algorithm = record { oid = sym told.oid i; parameters = option_map any_of (sym told.parameters i) };
      private_key = octets_of view.private_key;
      attributes = option_map slice_now view.attributes;
    } in
    subst (λ x. Decodes ContainerEncoding c.args.bytes.now (Some x)) same
    (decodes_stated container_stated {Z = Error} info_viewed c.args.bytes.now (Ok view) c.in_ok-view.ensures.read)
