-- `read_one` of `Any`, at the `?` behind `copy_of`: there was no memory for the copy. It may be asked for, as the bytes
-- begin with an encoding.
use Rattle.std.proofs.Common.{arith, inl}
use Rattle.der_core.specs.Words.{are_bytes, err_from_is_err_and}
use Rattle.spki_core.specs.Words.{any_of, any_values}
use Rattle.spki_core.proofs.owned_any.AnyDecodeRefSliceU8Global.read_one.Goals as goal

pub returns-in_err-copy-clause-read : goal.returns-in_err-copy-clause-read
returns-in_err-copy-clause-read c =
    let p = err_from_is_err_and c.from_residual-in_err-copy.result c.from_residual-in_err-copy.ensures.1 in
    let bytes = are_bytes _ (λ i. omega (arith, c.type_inv.bytes i)) in
    let s = any_values.gives c.args.bytes.now c.in_ok-any.rest.now (any_of c.in_ok-any.any) bytes c.in_ok-any.ensures.read in
    rw (p.1, p.2) (inl (c.in_err-copy.ensures.err, (s.0, c.in_ok-any.rest.now, s.1, (any_of c.in_ok-any.any, s.2))))
