-- `last` is what the last call of `read` gave, the first `count` bytes of the piece. They came behind `bytes`.
use Rattle.std.proofs.Common.{◌++◌, ◌∙◌, take, ap, arith, length-append, length-take, inl, inr}
use Rattle.std.proofs.KnownBytes.{Consumes-trans}
use Rattle.der_core.specs.Words.{err_from_is_err_and}
use Rattle.der_core.proofs.transfer.read_all.Goals as goal

-- At the `Err` of `Overflow`: with `last` more bytes came than `most`, by at most one piece.
pub returns-then-count-to_usize-clause-err : goal.returns-then-count-to_usize-clause-err
returns-then-count-to_usize-clause-err g c =
    let last = take c.in-Ok.count c.read.new.buf in
    let kind = c.new-then-count-to_usize.ensures in
    inr (inr (
      ap (λ e. e.kind) kind,
      c.in-Ok.ensures.faults ∙ c.loop-count.invariant.faults,
      (
        c.loop-count.bytes.items ++ last,
        Consumes-trans _ _ _ _ _ c.loop-count.invariant.came c.in-Ok.ensures.bytes.0,
        simp (length-append, length-take)
            (omega (arith, c.in-Ok.ensures.bound)),
        simp (length-append, length-take)
            (omega arith),
      ),
    ))

-- At the `?` behind `extend_from_slice`: memory ran out for what came, at least one byte and at most `most`.
pub returns-in_err-extend_from_slice-clause-err : goal.returns-in_err-extend_from_slice-clause-err
returns-in_err-extend_from_slice-clause-err g c =
    let last = take c.in-Ok.count c.read.new.buf in
    let p = err_from_is_err_and c.from_residual.result c.from_residual.ensures.1 in
    rw p.1 (inr (inl (
      p.2,
      c.in-Ok.ensures.faults ∙ c.loop-count.invariant.faults,
      (
        c.loop-count.bytes.items ++ last,
        Consumes-trans _ _ _ _ _ c.loop-count.invariant.came c.in-Ok.ensures.bytes.0,
        simp (length-append, length-take) (omega arith),
        simp (length-append, length-take)
            (omega arith),
      ),
    )))
