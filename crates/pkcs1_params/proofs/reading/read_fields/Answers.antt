-- `read_fields`: what is noted of the contents is what they are read as, strictly or not.
use Rattle.std.proofs.Common.{◌∙◌, ap}
use Rattle.der_core.specs.Words.{◌>>=◌, err_from_is_err_and}
use Rattle.spki_core.proofs.Noting.{contents_noted, unless_strict, value_accepted, value_rejected}
use Rattle.pkcs1_params.proofs.reading.read_fields.Goals as goal

-- At the `?` behind `read_noting`.
pub returns-in_err-params : goal.returns-in_err-params
returns-in_err-params g c =
    let p = err_from_is_err_and c.from_residual.result c.from_residual.ensures.1 in
    rw (p.1, p.2)
    (contents_noted g.T.AlgorithmParams.form c.args.strict c.args.contents.now
    ∙ ap (λ o. o >>= unless_strict c.args.strict) c.in_err-params.ensures)

-- At the `?` behind `reject_noted`: a default is written.
pub returns-in_err-reject_noted : goal.returns-in_err-reject_noted
returns-in_err-reject_noted g c =
    let p = err_from_is_err_and c.from_residual-in_err-reject_noted.result c.from_residual-in_err-reject_noted.ensures.1 in
    rw (p.1, p.2)
    (contents_noted g.T.AlgorithmParams.form c.args.strict c.args.contents.now
    ∙ ap (λ o. o >>= unless_strict c.args.strict) c.in_ok-params.ensures
    ∙ value_rejected g.T.AlgorithmParams.form c.args.strict _ _ _ c.in_err-reject_noted.ensures)

-- At the end.
pub returns : goal.returns
returns g c =
    contents_noted g.T.AlgorithmParams.form c.args.strict c.args.contents.now
    ∙ ap (λ o. o >>= unless_strict c.args.strict) c.in_ok-params.ensures
    ∙ value_accepted g.T.AlgorithmParams.form c.args.strict _ _ c.in_ok-reject_noted.ensures
