-- `read_parts` of `(A, B)`, at the `?` behind `B::read_parts`: its fault is that of the contents.
use Rattle.std.proofs.Common.{arith}
use Rattle.der_core.specs.Words.{are_bytes, err_from_is_err_and, front_reading_reads}
use Rattle.der_core.proofs.ReadSteps.{parts_fail}
use Rattle.der_core.proofs.parts.Tuple2DecodePartsRefSliceU8.read_parts.Goals as goal

pub returns-in_err-rest : goal.returns-in_err-rest
returns-in_err-rest g c =
    let p = err_from_is_err_and c.from_residual-in_err-rest.result c.from_residual-in_err-rest.ensures.1 in
    rw (p.1, p.2)
    (parts_fail (front_reading_reads g.A.Encoding.law g.A.Encoding.reads_alike).gives g.B.Contents.read _ _ _ _ _ _
    (are_bytes _ (λ i. omega (arith, c.type_inv.contents i))) c.in_ok-first.ensures.read c.in_err-rest.ensures)
