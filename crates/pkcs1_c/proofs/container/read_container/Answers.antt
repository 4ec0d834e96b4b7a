-- `read_container`: what it returns is what the octets mean as a container of an RSA key, or the first fault of it.
use Rattle.std.proofs.Common.{rules, ap, subst, None, Ok, Err}
use Rattle.der_core.specs.Words.{err_from_is_err_and, ◌>>=◌}
use Rattle.pkcs1.specs.Words.{held_view}
use Rattle.pkcs1.specs.declared.view.RsaPrivateKeyView.{RsaPrivateKeyView}
use Rattle.pkcs1_params.proofs.Faults.{err_holds}
use Rattle.pkcs1_params.specs.Words.{answers_asn1_behind}
use Rattle.pkcs8_core.specs.Words.{private_key_info, rsa_held, ContainedKey}
use Rattle.standard.specs.Statement.{ContainedKeyEncoding, Decodes}
use Rattle.pkcs1_c.proofs.container.read_container.Goals as goal

-- At the `?` behind `PrivateKeyInfoView::try_from`: what is no container is none of a key.
pub returns-in_err-info-clause-err : goal.returns-in_err-info-clause-err
returns-in_err-info-clause-err c =
    search rules

-- At the `?` behind `rsa_view`: the container that was read is the only one, and it has no RSA key.
pub returns-in_err-view-clause-err : goal.returns-in_err-view-clause-err
returns-in_err-view-clause-err c =
    err_holds (Decodes ContainedKeyEncoding c.args.encoding.now None) _
    (λ key p. c.in_err-view.ensures.read key
    (subst (λ d. ContainedKey d key d.private_key) (c.in_ok-info.ensures.read.1 p.0 p.1) (p.2, p.3)))

-- At the first `?`: the error is that of the container. `from_residual` is the call by which `?` hands it on, and
-- `rsa_held` gives the RSA key of a container, or its fault.
pub returns-in_err-info-clause-exact : goal.returns-in_err-info-clause-exact
returns-in_err-info-clause-exact c =
    let p = err_from_is_err_and c.from_residual.result c.from_residual.ensures.1 in
    rw (p.1, p.2) (ap (λ r. r >>= rsa_held) c.in_err-info.ensures.exact)

-- At the second `?`: the container was read, so the error is that of the key in it.
pub returns-in_err-view-clause-exact : goal.returns-in_err-view-clause-exact
returns-in_err-view-clause-exact c =
    let p = err_from_is_err_and c.from_residual-in_err-view.result c.from_residual-in_err-view.ensures.1 in
    rw (p.1, p.2)
    (answers_asn1_behind {X = RsaPrivateKeyView} held_view (private_key_info c.args.encoding.now) rsa_held _
    c.in_ok-info.ensures.exact (Err _) c.in_err-view.ensures.exact)

-- The container was read, so the value is that of the key in it.
pub returns-clause-exact : goal.returns-clause-exact
returns-clause-exact c =
    answers_asn1_behind held_view (private_key_info c.args.encoding.now) rsa_held _ c.in_ok-info.ensures.exact
    (Ok c.in_ok-view.view) c.in_ok-view.ensures.exact
