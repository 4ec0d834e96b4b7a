-- `read_tagged`, at its two `?`: the fault of the header, and that of the contents.
use Rattle.std.proofs.Common.{arith, inl, inr, ⊎_elim}
use Rattle.der_core.specs.Words.{are_bytes, err_from_is_err_and}
use Rattle.der_core.proofs.ReadSteps.{asks_inside, fault_inside, split_errs}
use Rattle.der_core.proofs.decode.read_tagged.Goals as goal

pub returns-in_err-contents-clause-read : goal.returns-in_err-contents-clause-read
returns-in_err-contents-clause-read g c =
    let p = err_from_is_err_and c.from_residual.result c.from_residual.ensures.1 in
    rw (p.1, p.2) (inr (split_errs c.args.tag g.T.Contents.read _ _ c.in_err-contents.ensures.err))

pub returns-in_err-value-clause-read : goal.returns-in_err-value-clause-read
returns-in_err-value-clause-read g c =
    let p = err_from_is_err_and c.from_residual-in_err-value.result c.from_residual-in_err-value.ensures.1 in
    rw (p.1, p.2)
    (⊎_elim
    (λ w. inl (
      w.0,
      asks_inside c.args.tag g.T.DecodeValue.may_allocate _ _ _
          (are_bytes _ (λ i. omega (arith, c.type_inv.bytes i))) c.in_ok-contents.ensures.ok w.1,
    ))
    (λ f. inr (fault_inside c.args.tag g.T.Contents.read _ _ _ _ c.in_ok-contents.ensures.ok f))
    c.in_err-value.ensures)
