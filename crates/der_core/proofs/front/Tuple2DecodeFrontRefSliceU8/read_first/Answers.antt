-- `read_first` of `(A, B)`, at the `?` behind `B::read_first`: its fault is that of the row.
use Rattle.std.proofs.Common.{arith}
use Rattle.der_core.specs.Words.{are_bytes, err_from_is_err_and, front_reading_reads}
use Rattle.der_core.proofs.ReadSteps.{front_row_fails}
use Rattle.der_core.proofs.front.Tuple2DecodeFrontRefSliceU8.read_first.Goals as goal

pub returns-in_err-rest-clause-read : goal.returns-in_err-rest-clause-read
returns-in_err-rest-clause-read g c =
    let p = err_from_is_err_and c.from_residual-in_err-rest.result c.from_residual-in_err-rest.ensures.1 in
    rw (p.1, p.2)
    (front_row_fails (front_reading_reads g.A.Encoding.law g.A.Encoding.reads_alike).gives g.B.FrontRow.read_row _ _ _ _ _ _
    (are_bytes _ (λ i. omega (arith, c.type_inv.bytes i))) c.in_ok-first.ensures.read c.in_err-rest.ensures.read)
