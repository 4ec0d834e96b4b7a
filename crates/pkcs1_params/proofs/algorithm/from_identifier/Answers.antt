-- `from_identifier`, at the `?` behind `parameters_of`: its error is that of each way to read the parameters, so of
-- this one (`_`) too. `p` is that `?` hands it on.
use Rattle.der_core.specs.Words.{err_from_is_err_and}
use Rattle.pkcs1_params.proofs.algorithm.from_identifier.Goals as goal

pub returns-in_err-any : goal.returns-in_err-any
returns-in_err-any g c =
    let p = err_from_is_err_and c.from_residual.result c.from_residual.ensures.1 in
    rw (p.1, p.2) (c.in_err-any.ensures.err _)
