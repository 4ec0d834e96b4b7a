-- `last` is what the last read gave. The loop keeps what came before it in `bytes`, so all that came are the two. No
-- read failed, as the loop and the last read say.
use Rattle.std.proofs.Common.{◌++◌, ◌∙◌, take, ap, arith, length-append, length-take, inl, inr, refl, rules, subst, sym, ◌≡◌}
use Rattle.std.proofs.KnownBytes.{Consumes-trans}
use Rattle.der_core.specs.Words.{err_from_is_err_and}
use Rattle.pkcs1_program.proofs.SequenceFronts.{no_bytes_are_front}
use Rattle.pkcs1_program.specs.Words.{IsSequenceFront}
use Rattle.pkcs1_program.proofs.sequence.read_sequence.Goals as goal

-- More than `Length::MAX` bytes came, but not more than one piece more: the third reason of `WhyReadingStopped`, with
-- `Overflow`.
pub returns-then-count-to_usize-clause-err : goal.returns-then-count-to_usize-clause-err
returns-then-count-to_usize-clause-err g c =
    let last = take c.in-Ok.count c.read.new.buf in
    let kind = c.new-then-count-to_usize.ensures in
    inl (inr (inr (
      ap (λ e. e.kind) kind,
      c.in-Ok.ensures.faults ∙ c.loop-count.invariant.faults,
      (
        c.loop-count.bytes.items ++ last,
        Consumes-trans _ _ _ _ _ c.loop-count.invariant.came c.in-Ok.ensures.bytes.0,
        simp (length-append, length-take)
            (omega (arith, c.in-Ok.ensures.bound)),
        simp (length-append, length-take)
            (omega arith),
      ),
    )))

-- At the `?` behind `extend_from_slice`: the second reason, that memory ran out. At least one byte came, and no more
-- than `Length::MAX`. `p.1` says that the result is an error, `p.2` which one.
pub returns-in_err-extend_from_slice-clause-err : goal.returns-in_err-extend_from_slice-clause-err
returns-in_err-extend_from_slice-clause-err g c =
    let last = take c.in-Ok.count c.read.new.buf in
    let p = err_from_is_err_and c.from_residual.result c.from_residual.ensures.1 in
    rw p.1 (inl (inr (inl (
      p.2,
      c.in-Ok.ensures.faults ∙ c.loop-count.invariant.faults,
      (
        c.loop-count.bytes.items ++ last,
        Consumes-trans _ _ _ _ _ c.loop-count.invariant.came c.in-Ok.ensures.bytes.0,
        simp (length-append, length-take) (omega arith),
        simp (length-append, length-take)
            (omega arith),
      ),
    ))))

-- At first nothing came.
pub loop-count-init : goal.loop-count-init
loop-count-init g c = record {
  came = search rules;
  front = subst IsSequenceFront (sym c.new-bytes.ensures.items) no_bytes_are_front;
  within = search rules;
  faults = refl;
}

-- What came has this fault.
pub returns-in-Some-clause-err : goal.returns-in-Some-clause-err
returns-in-Some-clause-err g c =
    let last = take c.in-Ok.count c.read.new.buf in
    let is : c.as_slice.result.now ≡ c.loop-count.bytes.items ++ last = search rules in
    let came = Consumes-trans _ _ _ _ _ c.loop-count.invariant.came c.in-Ok.ensures.bytes.0 in
    let fault = c.in-Some.ensures.fault in
    inr (c.in-Ok.ensures.faults ∙ c.loop-count.invariant.faults, (c.as_slice.result.now, rw is came, fault.0, fault.1))
