-- `read_value` of each `T: InParts`, at the `?`: a fault of the parts is one of the contents.
use Rattle.std.proofs.Common.{inl, inr, ⊎_elim}
use Rattle.der_core.specs.Words.{err_from_is_err_and}
use Rattle.der_core.proofs.record.AnyDecodeValueRefSliceU8.read_value.Goals as goal

pub returns-in_err-parts : goal.returns-in_err-parts
returns-in_err-parts g c =
    let p = err_from_is_err_and c.from_residual.result c.from_residual.ensures.1 in
    rw (p.1, p.2) (⊎_elim (λ w. inl w) (λ f. inr (g.met.T.InParts.errs _ _ f)) c.in_err-parts.ensures)
