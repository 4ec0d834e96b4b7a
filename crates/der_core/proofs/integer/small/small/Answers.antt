-- `small`, at the `Err` for more than one byte: a number of so many is above 255, which is the fault `Value`.
use Rattle.std.proofs.Common.{refl, ap}
use Rattle.der_core.proofs.Integers.{small_of_large}
use Rattle.der_core.proofs.integer.small.small.Goals as goal

pub returns-then-bytes-gt1 : goal.returns-then-bytes-gt1
returns-then-bytes-gt1 c =
    small_of_large c.args.contents.now c.in_ok-number.number.bytes.now c.new.result.kind _ c.in_ok-number.ensures
    c.in_ok-number.number.canonical (rw c.as_bytes-bytes.ensures.number at c.if-bytes-gt1.true)
    (ap (λ e. e.kind) c.new.ensures) refl
